-- What holds of each line holds of the tree.
use Rattle.std.proofs.Common.{◌≡◌, ℕ, List, [], ◌∷◌, ◌++◌, map, refl, sym, subst, arith}
use Rattle.std.specs.List.{flat_map}
use Rattle.tw_base.specs.Lists.{Each}
use Rattle.tw_base.specs.declared.name.Name.{Name}
use Rattle.teapot_tree.specs.declared.expr.Expr.{Expr}
use Rattle.teapot_tree.specs.declared.protocol.Handler.{Handler}
use Rattle.teapot_tree.specs.declared.protocol.MessageDecl.{MessageDecl}
use Rattle.teapot_tree.specs.declared.protocol.Param.{Param}
use Rattle.teapot_tree.specs.declared.protocol.Protocol.{Protocol}
use Rattle.teapot_tree.specs.declared.protocol.Start.{Start}
use Rattle.teapot_tree.specs.declared.protocol.State.{State}
use Rattle.teapot_tree.specs.declared.protocol.Trigger.{Trigger}
use Rattle.teapot_tree.specs.declared.protocol.Trigger.TheVariants as t
use Rattle.teapot_tree.specs.Bodies.{Simple, assign, send, send_all, set_tag, set_state, suspend, resume, install, enqueue}
use Rattle.teapot_tree.specs.Bodies.{wake_up, error, Body, done, plain, branch, branches, loop, each, body_of}
use Rattle.teapot_tree.specs.Parts.{names_in, exprs_in, simple_exprs, simple_words, words_in, loops, eaches, exprs_of}
use Rattle.teapot_tree.specs.Parts.{trigger_words, option_words, handler_names, state_names, names_of}
use Rattle.teapot_lines.specs.declared.form.Answers.{Answers}
use Rattle.teapot_lines.specs.declared.form.Answers.TheVariants as a
use Rattle.teapot_lines.specs.declared.form.Form.{Form}
use Rattle.teapot_lines.specs.declared.form.Form.TheVariants as f
use Rattle.teapot_lines.specs.declared.form.Typed.{Typed}
use Rattle.teapot_parse.specs.Trees.{Lines, simple_form, body_lines, handler_form, handler_lines, local_line, state_lines}
use Rattle.teapot_parse.specs.Trees.{message_line, info_line, start_line, lines_of, typed_of}
use Rattle.teapot_parse.proofs.Builds.{each-parts}

abbrev pub form_exprs : Form Expr → List Expr
form_exprs (f.If e) = e ∷ []
form_exprs (f.Assign n e) = e ∷ []
form_exprs (f.Send r e n xs) = e ∷ xs
form_exprs (f.SetState n xs) = xs
form_exprs (f.Suspend l n xs p) = xs
form_exprs (f.ForEach n e) = e ∷ []
form_exprs _ = []

abbrev pub answer_words : Answers → List Name
answer_words a.RdFault = []
answer_words a.WrFault = []
answer_words (a.Named n) = n ∷ []

abbrev pub typed_name : Typed → Name
typed_name x = x.name

abbrev pub form_words : Form Expr → List Name
form_words (f.Protocol n p) = n ∷ []
form_words (f.Message n ys c b) = n ∷ []
form_words (f.Info n y) = n ∷ []
form_words (f.Start h n g) = n ∷ []
form_words (f.State n ps c) = n ∷ (map typed_name ps ++ option_words c)
form_words (f.On w ns) = answer_words w ++ ns
form_words (f.Local n y) = n ∷ []
form_words (f.Assign n e) = n ∷ []
form_words (f.Send r e n xs) = n ∷ []
form_words (f.SetState n xs) = n ∷ []
form_words (f.Suspend l n xs p) = l ∷ n ∷ p ∷ []
form_words (f.Resume n) = n ∷ []
form_words (f.Error n) = n ∷ []
form_words (f.ForEach n e) = n ∷ []
form_words _ = []

-- ---- bodies

pub each-append : {X : Type 0} (P : X → Type 0) (xs ys : List X) → Each P xs → Each P ys → Each P (xs ++ ys)
each-append P [] ys h k = k
each-append P (x ∷ xs) ys (h, hs) k = (h, each-append P xs ys hs k)

simple-exprs : (line : ℕ) (s : Simple) → form_exprs (simple_form s) ≡ simple_exprs s
simple-exprs line (assign n e) = refl
simple-exprs line (send e n xs) = refl
simple-exprs line (send_all e n xs) = refl
simple-exprs line (set_tag g) = refl
simple-exprs line (set_state n xs) = refl
simple-exprs line (suspend l n xs p) = refl
simple-exprs line (resume n) = refl
simple-exprs line install = refl
simple-exprs line enqueue = refl
simple-exprs line wake_up = refl
simple-exprs line (error n) = refl

simple-words : (line : ℕ) (s : Simple) → form_words (simple_form s) ≡ simple_words s
simple-words line (assign n e) = refl
simple-words line (send e n xs) = refl
simple-words line (send_all e n xs) = refl
simple-words line (set_tag g) = refl
simple-words line (set_state n xs) = refl
simple-words line (suspend l n xs p) = refl
simple-words line (resume n) = refl
simple-words line install = refl
simple-words line enqueue = refl
simple-words line wake_up = refl
simple-words line (error n) = refl

abbrev pub ExprsAt : (Expr → Type 0) → ℕ × Form Expr → Type 0
ExprsAt Q q = Each Q (form_exprs q.1)

abbrev pub WordsAt : (Name → Type 0) → ℕ × Form Expr → Type 0
WordsAt N q = Each N (form_words q.1)

-- the lines of a block, of its End and behind it
block-parts : (P : ℕ × Form Expr → Type 0) (x rest : Lines) → Each P (x ++ (0, f.End) ∷ rest) → Each P x × Each P rest
block-parts P x rest h = let parts = each-parts P x ((0, f.End) ∷ rest) h in (parts.0, parts.1.1)

body-exprs : (Q : Expr → Type 0) (b : Body) → eaches b ≡ 0 → Each (ExprsAt Q) (body_lines b) → Each Q (exprs_in b)
body-exprs Q done n h = tt
body-exprs Q (plain line s b) n (h, hs) = each-append Q (simple_exprs s) (exprs_in b) (subst (Each Q) (simple-exprs line s) h)
    (body-exprs Q b n hs)
body-exprs Q (branch line e x b) n (h, (u, hs)) =
    let nx : eaches x ≡ 0 = omega arith in
    let nb : eaches b ≡ 0 = omega arith in
    let parts = block-parts (ExprsAt Q) (body_lines x) (body_lines b) hs in
    (h.0, each-append Q (exprs_in x) (exprs_in b) (body-exprs Q x nx parts.0) (body-exprs Q b nb parts.1))
body-exprs Q (branches line e x y b) n (h, (u, hs)) =
    let nx : eaches x ≡ 0 = omega arith in
    let ny : eaches y ≡ 0 = omega arith in
    let nb : eaches b ≡ 0 = omega arith in
    let parts =
    block-parts (ExprsAt Q) (body_lines x) ((0, f.Else) ∷ (0, f.Begin) ∷ (body_lines y ++ (0, f.End) ∷ body_lines b)) hs in
    let more = block-parts (ExprsAt Q) (body_lines y) (body_lines b) parts.1.1.1 in (
      h.0,
      each-append Q (exprs_in x) (exprs_in y ++ exprs_in b) (body-exprs Q x nx parts.0)
          (each-append Q (exprs_in y) (exprs_in b) (body-exprs Q y ny more.0) (body-exprs Q b nb more.1)),
    )
body-exprs Q (loop line v e x b) n (h, (u, hs)) =
    let nx : eaches x ≡ 0 = omega arith in
    let nb : eaches b ≡ 0 = omega arith in
    let parts = block-parts (ExprsAt Q) (body_lines x) (body_lines b) hs in
    (h.0, each-append Q (exprs_in x) (exprs_in b) (body-exprs Q x nx parts.0) (body-exprs Q b nb parts.1))
body-exprs Q (each line v z x b) n h = absurd (omega arith)

body-words : (N : Name → Type 0) (b : Body) → eaches b ≡ 0 → Each (WordsAt N) (body_lines b) → Each N (words_in b)
body-words N done n h = tt
body-words N (plain line s b) n (h, hs) = each-append N (simple_words s) (words_in b) (subst (Each N) (simple-words line s) h)
    (body-words N b n hs)
body-words N (branch line e x b) n (h, (u, hs)) =
    let nx : eaches x ≡ 0 = omega arith in
    let nb : eaches b ≡ 0 = omega arith in
    let parts = block-parts (WordsAt N) (body_lines x) (body_lines b) hs in
    each-append N (words_in x) (words_in b) (body-words N x nx parts.0) (body-words N b nb parts.1)
body-words N (branches line e x y b) n (h, (u, hs)) =
    let nx : eaches x ≡ 0 = omega arith in
    let ny : eaches y ≡ 0 = omega arith in
    let nb : eaches b ≡ 0 = omega arith in
    let parts =
    block-parts (WordsAt N) (body_lines x) ((0, f.Else) ∷ (0, f.Begin) ∷ (body_lines y ++ (0, f.End) ∷ body_lines b)) hs in
    let more = block-parts (WordsAt N) (body_lines y) (body_lines b) parts.1.1.1 in
    each-append N (words_in x) (words_in y ++ words_in b) (body-words N x nx parts.0)
    (each-append N (words_in y) (words_in b) (body-words N y ny more.0) (body-words N b nb more.1))
body-words N (loop line v e x b) n (h, (u, hs)) =
    let nx : eaches x ≡ 0 = omega arith in
    let nb : eaches b ≡ 0 = omega arith in
    let parts = block-parts (WordsAt N) (body_lines x) (body_lines b) hs in
    (h.0, each-append N (words_in x) (words_in b) (body-words N x nx parts.0) (body-words N b nb parts.1))
body-words N (each line v z x b) n h = absurd (omega arith)

abbrev pub NoLoop : ℕ × Form Expr → Type 0
NoLoop q = (n : Name) (e : Expr) → q.1 ≡ f.ForEach n e → ⊥

body-loops : (b : Body) → eaches b ≡ 0 → Each NoLoop (body_lines b) → loops b ≡ 0
body-loops done n h = refl
body-loops (plain line s b) n (h, hs) = body-loops b n hs
body-loops (branch line e x b) n (h, (u, hs)) =
    let nx : eaches x ≡ 0 = omega arith in
    let nb : eaches b ≡ 0 = omega arith in
    let parts = block-parts NoLoop (body_lines x) (body_lines b) hs in
    rw (body-loops x nx parts.0, body-loops b nb parts.1) refl
body-loops (branches line e x y b) n (h, (u, hs)) =
    let nx : eaches x ≡ 0 = omega arith in
    let ny : eaches y ≡ 0 = omega arith in
    let nb : eaches b ≡ 0 = omega arith in
    let parts = block-parts NoLoop (body_lines x) ((0, f.Else) ∷ (0, f.Begin) ∷ (body_lines y ++ (0, f.End) ∷ body_lines b)) hs in
    let more = block-parts NoLoop (body_lines y) (body_lines b) parts.1.1.1 in
    rw (body-loops x nx parts.0, body-loops y ny more.0, body-loops b nb more.1) refl
body-loops (loop line v e x b) n (h, (u, hs)) = absurd (h v e refl)
body-loops (each line v z x b) n h = absurd (omega arith)

-- ---- handlers, states, the protocol

flat-parts : {X Y : Type 0} (P : Y → Type 0) (f : X → List Y) (xs : List X) → Each P (flat_map f xs) → Each (λ x. Each P (f x)) xs
flat-parts P f [] h = tt
flat-parts P f (x ∷ xs) h = let parts = each-parts P (f x) (flat_map f xs) h in (parts.0, flat-parts P f xs parts.1)

pub flat-each : {X Y : Type 0} (P : Y → Type 0) (f : X → List Y) (xs : List X) → Each (λ x. Each P (f x)) xs →
    Each P (flat_map f xs)
flat-each P f [] h = tt
flat-each P f (x ∷ xs) (h, hs) = each-append P (f x) (flat_map f xs) h (flat-each P f xs hs)

-- what a list of lines says of what they are the lines of
map-parts : {X : Type 0} (P : ℕ × Form Expr → Type 0) (R : X → Type 0) (line_of : X → ℕ × Form Expr) →
    ((x : X) → P (line_of x) → R x) → (xs : List X) → Each P (map line_of xs) → Each R xs
map-parts P R line_of g [] h = tt
map-parts P R line_of g (x ∷ xs) (h, hs) = (g x h, map-parts P R line_of g xs hs)

map-each : {X Y : Type 0} (P : Y → Type 0) (g : X → Y) (xs : List X) → Each (λ x. P (g x)) xs → Each P (map g xs)
map-each P g [] h = tt
map-each P g (x ∷ xs) (h, hs) = (h, map-each P g xs hs)

-- the lines of a handler, of its locals and body
handler-parts : (P : ℕ × Form Expr → Type 0) (h : Handler) → Each P (handler_lines h) →
    P (h.line, handler_form h.on h.args) × Each P (map local_line h.locals) × Each P (body_lines (body_of h.body))
handler-parts P h (one, (begin, more)) =
    let parts = each-parts P (map local_line h.locals) (body_lines (body_of h.body) ++ (0, f.End) ∷ []) more in
    (one, parts.0, (block-parts P (body_lines (body_of h.body)) [] parts.1).0)

-- the lines of a state, and of its handlers
state-parts : (P : ℕ × Form Expr → Type 0) (s : State) → Each P (state_lines s) →
    P (s.line, f.State s.name (map typed_of s.params) s.cont) × Each (λ h. Each P (handler_lines h)) s.handlers
state-parts P s (one, (begin, more)) =
    (one, flat-parts P handler_lines s.handlers (block-parts P (flat_map handler_lines s.handlers) [] more).0)

-- what holds of the lines of each handler
pub handlers-each : (P : ℕ × Form Expr → Type 0) (R : Handler → Type 0) (E : Handler → Type 0) →
    ((h : Handler) → E h → Each P (handler_lines h) → R h) → (ss : List State) →
    Each E (flat_map (λ (s : State). s.handlers) ss) → Each P (flat_map state_lines ss)
    → Each R (flat_map (λ (s : State). s.handlers) ss)
handlers-each P R E g ss es h = flat-each R (λ (s : State). s.handlers) ss
    (all ss (flat-parts E (λ (s : State). s.handlers) ss es) (flat-parts P state_lines ss h))
  where
    each-two : (hs : List Handler) → Each E hs → Each (λ h. Each P (handler_lines h)) hs → Each R hs
    each-two [] e k = tt
    each-two (x ∷ xs) (e, es) (k, ks) = (g x e k, each-two xs es ks)

    all : (xs : List State) → Each (λ (s : State). Each E s.handlers) xs → Each (λ s. Each P (state_lines s)) xs →
        Each (λ (s : State). Each R s.handlers) xs
    all [] e k = tt
    all (x ∷ xs) (e, es) (k, ks) = (each-two x.handlers e (state-parts P x k).1, all xs es ks)

-- the lines of the parts of a protocol
pub protocol-parts : (P : ℕ × Form Expr → Type 0) (p : Protocol) → Each P (lines_of p)
    → P (p.line, f.Protocol p.name p.profile) × Each P (map message_line p.messages) × Each P (map info_line p.infos)
    × Each P (map start_line p.starts) × Each P (flat_map state_lines p.states)
protocol-parts P p (one, more) =
    let a1 = each-parts P (map message_line p.messages) (map info_line p.infos
    ++ (map start_line p.starts ++ flat_map state_lines p.states)) more in
    let a2 = each-parts P (map info_line p.infos) (map start_line p.starts ++ flat_map state_lines p.states) a1.1 in
    let a3 = each-parts P (map start_line p.starts) (flat_map state_lines p.states) a2.1 in
    (one, a1.0, a2.0, a3.0, a3.1)

pub exprs-good : (Q : Expr → Type 0) (h : Handler) → eaches (body_of h.body) ≡ 0 → Each (ExprsAt Q) (handler_lines h) →
    Each Q (exprs_of h)
exprs-good Q h none lines = body-exprs Q (body_of h.body) none (handler-parts (ExprsAt Q) h lines).2

pub loops-good : (h : Handler) → eaches (body_of h.body) ≡ 0 → Each NoLoop (handler_lines h) → loops (body_of h.body) ≡ 0
loops-good h none lines = body-loops (body_of h.body) none (handler-parts NoLoop h lines).2

-- ---- the names

names-flat : (N : Name → Type 0) (xs : List Expr) → Each (λ e. Each N (names_in e)) xs → Each N (flat_map names_in xs)
names-flat N xs h = flat-each N names_in xs h

trigger-good : (N : Name → Type 0) (on : Trigger) (args : List Name) (line : ℕ) → WordsAt N (line, handler_form on args) →
    (on ≡ t.Default → args ≡ []) → Each N (trigger_words on) × Each N args
trigger-good N t.RdFault args line h d = (tt, h)
trigger-good N t.WrFault args line h d = (tt, h)
trigger-good N (t.Named n) args line h d = ((h.0, tt), h.1)
trigger-good N t.Default args line h d = (tt, subst (Each N) (sym (d refl)) tt)

-- what the lines say of a handler's names
handler-good : (N : Name → Type 0) (h : Handler) → (h.on ≡ t.Default → h.args ≡ []) → eaches (body_of h.body) ≡ 0 →
    Each (WordsAt N) (handler_lines h) → Each (ExprsAt (λ e. Each N (names_in e))) (handler_lines h) → Each N (handler_names h)
handler-good N h default none words exprs =
    let b = body_of h.body in
    let w = handler-parts (WordsAt N) h words in
    let tr = trigger-good N h.on h.args h.line w.0 default in
    let locals : Each N (map (λ (x : Param). x.name) h.locals) =
    map-each N (λ (x : Param). x.name) h.locals (map-parts (WordsAt N) (λ (x : Param). N x.name) local_line
    (λ x k. k.0) h.locals w.1) in
    let inner : Each N (words_in b ++ flat_map names_in (exprs_of h)) =
    each-append N (words_in b) (flat_map names_in (exprs_of h)) (body-words N b none w.2)
    (names-flat N (exprs_of h) (exprs-good (λ e. Each N (names_in e)) h none exprs)) in
    each-append N (trigger_words h.on) _ tr.0 (each-append N h.args _ tr.1
    (each-append N (map (λ (x : Param). x.name) h.locals) _ locals inner))

names-typed : (N : Name → Type 0) (ps : List Param) → Each N (map typed_name (map typed_of ps)) →
    Each N (map (λ (x : Param). x.name) ps)
names-typed N [] h = tt
names-typed N (p ∷ ps) (h, hs) = (h, names-typed N ps hs)

-- what is known of a handler that was read
abbrev pub Known : Handler → Type 0
Known h = (h.on ≡ t.Default → h.args ≡ []) × (eaches (body_of h.body) ≡ 0)

state-good : (N : Name → Type 0) (s : State) → Each Known s.handlers → Each (WordsAt N) (state_lines s) →
    Each (ExprsAt (λ e. Each N (names_in e))) (state_lines s) → Each N (state_names s)
state-good N s known words exprs =
    let w = state-parts (WordsAt N) s words in
    let e = state-parts (ExprsAt (λ e. Each N (names_in e))) s exprs in
    let front = each-parts N (map typed_name (map typed_of s.params)) (option_words s.cont) w.0.1 in (
      w.0.0,
      each-append N (map (λ (x : Param). x.name) s.params) _ (names-typed N s.params front.0)
          (each-append N (option_words s.cont) _ front.1 (flat-each N handler_names s.handlers (all s.handlers known w.1 e.1))),
    )
  where
    all : (hs : List Handler) → Each Known hs → Each (λ h. Each (WordsAt N) (handler_lines h)) hs →
        Each (λ h. Each (ExprsAt (λ e. Each N (names_in e))) (handler_lines h)) hs → Each (λ h. Each N (handler_names h)) hs
    all [] k u v = tt
    all (h ∷ hs) (k, ks) (u, us) (v, vs) = (handler-good N h k.0 k.1 u v, all hs ks us vs)

pub names-good : (N : Name → Type 0) (p : Protocol) → Each (λ (s : State). Each Known s.handlers) p.states →
    Each (WordsAt N) (lines_of p) → Each (ExprsAt (λ e. Each N (names_in e))) (lines_of p) → Each N (names_of p)
names-good N p known words exprs =
    let w = protocol-parts (WordsAt N) p words in
    let e = protocol-parts (ExprsAt (λ e. Each N (names_in e))) p exprs in
    let ms : Each N (map (λ (m : MessageDecl). m.name) p.messages) =
    map-each N (λ (m : MessageDecl). m.name) p.messages (map-parts (WordsAt N) (λ (m : MessageDecl). N m.name) message_line
    (λ x k. k.0) p.messages w.1) in
    let is : Each N (map (λ (x : Param). x.name) p.infos) = map-each N (λ (x : Param). x.name) p.infos
    (map-parts (WordsAt N) (λ (x : Param). N x.name) info_line (λ x k. k.0) p.infos w.2) in
    let gs : Each N (map (λ (s : Start). s.state) p.starts) =
    map-each N (λ (s : Start). s.state) p.starts (map-parts (WordsAt N) (λ (s : Start). N s.state) start_line
    (λ x k. k.0) p.starts w.3) in
    let ss : Each N (flat_map state_names p.states) = flat-each N state_names p.states
    (all p.states known (flat-parts (WordsAt N) state_lines p.states w.4)
    (flat-parts (ExprsAt (λ e. Each N (names_in e))) state_lines p.states e.4)) in (
      w.0.0,
      each-append N (map (λ (m : MessageDecl). m.name) p.messages) _ ms
          (each-append N (map (λ (x : Param). x.name) p.infos) _ is
          (each-append N (map (λ (s : Start). s.state) p.starts) _ gs ss)),
    )
  where
    all : (xs : List State) → Each (λ (s : State). Each Known s.handlers) xs →
        Each (λ s. Each (WordsAt N) (state_lines s)) xs → Each
        (λ s. Each (ExprsAt (λ e. Each N (names_in e))) (state_lines s)) xs → Each (λ s. Each N (state_names s)) xs
    all [] k u v = tt
    all (x ∷ xs) (k, ks) (u, us) (v, vs) = (state-good N x k u v, all xs ks us vs)
