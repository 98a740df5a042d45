-- The grammar does not see lines, other than those of a state's arguments.
use Rattle.std.proofs.Common.{◌≡◌, ◌∙◌, ◌+◌, ◌≤◌, max, true, List, [], ◌∷◌, ◌++◌, length, map, refl, ap, subst, sym}
use Rattle.std.specs.List.{flat_map}
use Rattle.std.proofs.lemmas.List.{length-map, map-append}
use Rattle.tw_base.specs.Lists.{Each}
use Rattle.teapot_tree.specs.declared.expr.Expr.{Expr}
use Rattle.teapot_tree.specs.declared.protocol.Handler.{Handler}
use Rattle.teapot_tree.specs.declared.protocol.MessageDecl.{MessageDecl}
use Rattle.teapot_tree.specs.declared.protocol.Param.{Param}
use Rattle.teapot_tree.specs.declared.protocol.Protocol.{Protocol}
use Rattle.teapot_tree.specs.declared.protocol.Start.{Start}
use Rattle.teapot_tree.specs.declared.protocol.State.{State}
use Rattle.teapot_tree.specs.Bare.{bare_handler, bare_message, bare_param, bare_protocol, bare_start, bare_state}
use Rattle.teapot_tree.specs.Bodies.{Body, done, plain, branch, branches, loop, each, body_of}
use Rattle.teapot_tree.specs.Grammar.{IsName, IsTree, NoDefaultArgs, OnOneLine}
use Rattle.teapot_tree.specs.Parts.{depth, eaches, exprs_in, exprs_of, fits, handler_names, handlers_of, loops, names_in}
use Rattle.teapot_tree.specs.Parts.{names_of, nest, option_words, simple_exprs, simple_words, state_names, trigger_words}
use Rattle.teapot_tree.specs.Parts.{words_in}
use Rattle.stache_rules.proofs.Unlined.{bare_body, body-bare}

-- ---- lists

pub each-back : {X Y : Type 0} (f : X → Y) (P : Y → Type 0) (Q : X → Type 0) → ((x : X) → P (f x) → Q x) → (xs : List X) →
    Each P (map f xs) → Each Q xs
each-back f P Q g [] e = tt
each-back f P Q g (x ∷ xs) e = (g x e.0, each-back f P Q g xs e.1)

map-same : {X Y : Type 0} (f : X → X) (g : X → Y) → ((x : X) → g (f x) ≡ g x) → (xs : List X) → map g (map f xs) ≡ map g xs
map-same f g e [] = refl
map-same f g e (x ∷ xs) = λ i. e x i ∷ map-same f g e xs i

flat-same : {X Y : Type 0} (f : X → X) (g : X → List Y) → ((x : X) → g (f x) ≡ g x) → (xs : List X) →
    flat_map g (map f xs) ≡ flat_map g xs
flat-same f g e [] = refl
flat-same f g e (x ∷ xs) = λ i. e x i ++ flat-same f g e xs i

-- ---- bodies

exprs-bare : (b : Body) → exprs_in (bare_body b) ≡ exprs_in b
exprs-bare done = refl
exprs-bare (plain n s b) = ap (λ z. simple_exprs s ++ z) (exprs-bare b)
exprs-bare (branch n e x b) = λ i. e ∷ (exprs-bare x i ++ exprs-bare b i)
exprs-bare (branches n e x y b) = λ i. e ∷ (exprs-bare x i ++ (exprs-bare y i ++ exprs-bare b i))
exprs-bare (loop n v e x b) = λ i. e ∷ (exprs-bare x i ++ exprs-bare b i)
exprs-bare (each n v s x b) = λ i. exprs-bare x i ++ exprs-bare b i

words-bare : (b : Body) → words_in (bare_body b) ≡ words_in b
words-bare done = refl
words-bare (plain n s b) = ap (λ z. simple_words s ++ z) (words-bare b)
words-bare (branch n e x b) = λ i. words-bare x i ++ words-bare b i
words-bare (branches n e x y b) = λ i. words-bare x i ++ (words-bare y i ++ words-bare b i)
words-bare (loop n v e x b) = λ i. v ∷ (words-bare x i ++ words-bare b i)
words-bare (each n v s x b) = λ i. v ∷ (words-bare x i ++ words-bare b i)

nest-bare : (b : Body) → nest (bare_body b) ≡ nest b
nest-bare done = refl
nest-bare (plain n s b) = nest-bare b
nest-bare (branch n e x b) = λ i. max (nest-bare x i + 1) (nest-bare b i)
nest-bare (branches n e x y b) = λ i. max (max (nest-bare x i) (nest-bare y i) + 1) (nest-bare b i)
nest-bare (loop n v e x b) = λ i. max (nest-bare x i + 1) (nest-bare b i)
nest-bare (each n v s x b) = λ i. max (nest-bare x i + 1) (nest-bare b i)

loops-bare : (b : Body) → loops (bare_body b) ≡ loops b
loops-bare done = refl
loops-bare (plain n s b) = loops-bare b
loops-bare (branch n e x b) = λ i. loops-bare x i + loops-bare b i
loops-bare (branches n e x y b) = λ i. loops-bare x i + (loops-bare y i + loops-bare b i)
loops-bare (loop n v e x b) = λ i. 1 + (loops-bare x i + loops-bare b i)
loops-bare (each n v s x b) = λ i. loops-bare x i + loops-bare b i

eaches-bare : (b : Body) → eaches (bare_body b) ≡ eaches b
eaches-bare done = refl
eaches-bare (plain n s b) = eaches-bare b
eaches-bare (branch n e x b) = λ i. eaches-bare x i + eaches-bare b i
eaches-bare (branches n e x y b) = λ i. eaches-bare x i + (eaches-bare y i + eaches-bare b i)
eaches-bare (loop n v e x b) = λ i. eaches-bare x i + eaches-bare b i
eaches-bare (each n v s x b) = λ i. 1 + (eaches-bare x i + eaches-bare b i)

-- ---- handlers

exprs-as : (h : Handler) → exprs_of (bare_handler h) ≡ exprs_of h
exprs-as h = ap exprs_in (body-bare h.body) ∙ exprs-bare (body_of h.body)

nest-as : (h : Handler) → nest (body_of (bare_handler h).body) ≡ nest (body_of h.body)
nest-as h = ap nest (body-bare h.body) ∙ nest-bare (body_of h.body)

loops-as : (h : Handler) → loops (body_of (bare_handler h).body) ≡ loops (body_of h.body)
loops-as h = ap loops (body-bare h.body) ∙ loops-bare (body_of h.body)

eaches-as : (h : Handler) → eaches (body_of (bare_handler h).body) ≡ eaches (body_of h.body)
eaches-as h = ap eaches (body-bare h.body) ∙ eaches-bare (body_of h.body)

words-as : (h : Handler) → words_in (body_of (bare_handler h).body) ≡ words_in (body_of h.body)
words-as h = ap words_in (body-bare h.body) ∙ words-bare (body_of h.body)

params-named : (ps : List Param) → map (λ (a : Param). a.name) (map bare_param ps) ≡ map (λ (a : Param). a.name) ps
params-named ps = map-same bare_param (λ (a : Param). a.name) (λ a. refl) ps

handler-named : (h : Handler) → handler_names (bare_handler h) ≡ handler_names h
handler-named h =
    λ i. trigger_words h.on ++ (h.args ++ (params-named h.locals i ++ (words-as h i ++ flat_map names_in (exprs-as h i))))

state-named : (s : State) → state_names (bare_state s) ≡ state_names s
state-named s =
    λ i. s.name ∷ (params-named s.params i ++ (option_words s.cont
    ++ flat-same bare_handler handler_names handler-named s.handlers i))

handlers-in : (ss : List State) → flat_map (λ (s : State). s.handlers) (map bare_state ss)
    ≡ map bare_handler (flat_map (λ (s : State). s.handlers) ss)
handlers-in [] = refl
handlers-in (s ∷ ss) = ap (λ z. map bare_handler s.handlers ++ z) (handlers-in ss)
    ∙ sym (map-append bare_handler s.handlers (flat_map (λ (s : State). s.handlers) ss))

-- what is known of each handler without lines is known of it with them
of-handlers : (P : Handler → Type 0) → ((h : Handler) → P (bare_handler h) → P h) → (p : Protocol) →
    Each P (handlers_of (bare_protocol p)) → Each P (handlers_of p)
of-handlers P f p e = each-back bare_handler P P f (handlers_of p) (subst (λ hs. Each P hs) (handlers-in p.states) e)

-- ---- protocols

names-as : (p : Protocol) → names_of (bare_protocol p) ≡ names_of p
names-as p = λ i.
    p.name ∷ (map-same bare_message (λ (m : MessageDecl). m.name) (λ m. refl) p.messages i
    ++ (params-named p.infos i
    ++ (map-same bare_start (λ (s : Start). s.state) (λ s. refl) p.starts i
    ++ flat-same bare_state state_names state-named p.states i)))

pub tree-as : (p : Protocol) → IsTree (bare_protocol p) → Each OnOneLine p.states → IsTree p
tree-as p t lines = record {
  profiles = t.profiles;
  names = subst (λ ws. Each (IsName p.profile) ws) (names-as p) t.names;
  numbers = of-handlers (λ (h : Handler). Each (λ (e : Expr). fits e ≡ true) (exprs_of h))
      (λ h e. subst (λ es. Each (λ (e : Expr). fits e ≡ true) es) (exprs-as h) e) p t.numbers;
  default_args = of-handlers NoDefaultArgs (λ h e. e) p t.default_args;
  no_each = of-handlers (λ (h : Handler). eaches (body_of h.body) ≡ 0) (λ h e. sym (eaches-as h) ∙ e) p t.no_each;
  no_loop = λ one. of-handlers (λ (h : Handler). loops (body_of h.body) ≡ 0) (λ h e. sym (loops-as h) ∙ e) p (t.no_loop one);
  param_lines = lines;
  few_states = subst (λ n. n ≤ 64) (length-map p.states bare_state) t.few_states;
  few_messages = subst (λ n. n ≤ 64) (length-map p.messages bare_message) t.few_messages;
  few_handlers = subst (λ n. n ≤ 1024) (ap length (handlers-in p.states) ∙ length-map (handlers_of p) bare_handler)
      t.few_handlers;
  few_infos = subst (λ n. n ≤ 8) (length-map p.infos bare_param) t.few_infos;
  few_locals = of-handlers (λ (h : Handler). length h.locals ≤ 8)
      (λ h e. subst (λ n. n ≤ 8) (length-map h.locals bare_param) e) p t.few_locals;
  few_message_args = each-back bare_message (λ (m : MessageDecl). length m.args ≤ 4) (λ (m : MessageDecl). length m.args ≤ 4)
      (λ m e. e) p.messages t.few_message_args;
  few_params = each-back bare_state (λ (s : State). length s.params ≤ 4) (λ (s : State). length s.params ≤ 4)
      (λ s e. subst (λ n. n ≤ 4) (length-map s.params bare_param) e) p.states t.few_params;
  shallow = of-handlers (λ (h : Handler). Each (λ (e : Expr). depth e ≤ 16) (exprs_of h))
      (λ h e. subst (λ es. Each (λ (e : Expr). depth e ≤ 16) es) (exprs-as h) e) p t.shallow;
  little_nest = of-handlers (λ (h : Handler). nest (body_of h.body) ≤ 16)
      (λ h e. subst (λ n. n ≤ 16) (nest-as h) e) p t.little_nest;
  few_loops = of-handlers (λ (h : Handler). loops (body_of h.body) ≤ 4) (λ h e. subst (λ n. n ≤ 4) (loops-as h) e) p t.few_loops;
}
