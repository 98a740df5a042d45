-- The tests of statements do not see lines.
use Rattle.std.proofs.Common.{◌≡◌, ◌∙◌, ℕ, ◌==◌, Bool, true, false, not, ◌&&◌, ◌||◌, List, [], ◌∷◌, ◌++◌, map, length, Option}
use Rattle.std.proofs.Common.{Some, None, is_some, is_none, refl, ap}
use Rattle.std.specs.Prelude.{find, if◌then◌else◌}
use Rattle.std.specs.List.{list_all}
use Rattle.std.specs.Option.{option_map}
use Rattle.std.proofs.lemmas.List.{length-map}
use Rattle.std.specs.Str.{bytes_eq}
use Rattle.tw_base.specs.declared.name.Name.{Name}
use Rattle.teapot_tree.specs.declared.protocol.MessageDecl.{MessageDecl}
use Rattle.teapot_tree.specs.declared.protocol.Param.{Param}
use Rattle.teapot_tree.specs.declared.protocol.Protocol.{Protocol}
use Rattle.teapot_tree.specs.declared.protocol.State.{State}
use Rattle.teapot_tree.specs.declared.protocol.Trigger.{Trigger}
use Rattle.teapot_tree.specs.declared.protocol.Trigger.TheVariants as t
use Rattle.teapot_tree.specs.declared.protocol.ValType.TheVariants.{Node, Set, Bool as Truth}
use Rattle.teapot_tree.specs.declared.rule.Rule.{Rule}
use Rattle.teapot_tree.specs.declared.rule.Rule.TheVariants.{Undeclared, WrongType, ArgCount, ContDropped, ResumeForeign, NoData}
use Rattle.teapot_tree.specs.Bare.{bare_handler, bare_message, bare_param, bare_protocol, bare_state}
use Rattle.teapot_tree.specs.Bodies.{assign, send, send_all, set_state, suspend, resume, install}
use Rattle.teapot_tree.specs.Parts.{names_in}
use Rattle.teapot_tree.specs.Paths.{Deed, does, tests, repeats}
use Rattle.teapot_tree.specs.Rules.{are_fit, carries, drops_cont, exprs_at, has_cont, is_counted, is_declared, is_fit}
use Rattle.teapot_tree.specs.Rules.{is_message_count, is_state_count, is_typed, is_wrong_start, lacks_cont, lacks_data}
use Rattle.teapot_tree.specs.Rules.{params_of, resumes_foreign, uses_undeclared}
use Rattle.teapot_tree.specs.Scopes.{Scope, args_of, assignable, is_among, is_of, locals_in, message_of, of_param, state_of}
use Rattle.teapot_tree.specs.Scopes.{taken_message, type_among, type_of, typed, visible}
use Rattle.teapot_rules.specs.Deeds.{breaks_at}

abbrev pub bare_scope : Scope → Scope
bare_scope c = record { protocol = bare_protocol c.protocol; state = bare_state c.state; handler = bare_handler c.handler }

-- ---- what is declared

find-map : {X Y : Type 0} (f : X → Y) (t : Y → Bool) (xs : List X) → find t (map f xs) ≡ option_map f (find (λ x. t (f x)) xs)
find-map f t [] = refl
find-map f t (x ∷ xs) = by_test (t (f x)) (find-map f t xs)
  where
    by_test : (b : Bool) → find t (map f xs) ≡ option_map f (find (λ x. t (f x)) xs) →
        (if b then Some (f x) else find t (map f xs)) ≡ option_map f (if b then Some x else find (λ x. t (f x)) xs)
    by_test true h = refl
    by_test false h = h

pub message-bare : (p : Protocol) (n : Name) → message_of (bare_protocol p) n ≡ option_map bare_message (message_of p n)
message-bare p n = find-map bare_message (λ m. bytes_eq m.name n) p.messages

pub state-bare : (p : Protocol) (n : Name) → state_of (bare_protocol p) n ≡ option_map bare_state (state_of p n)
state-bare p n = find-map bare_state (λ s. bytes_eq s.name n) p.states

taken-bare : (p : Protocol) (g : Trigger) → taken_message (bare_protocol p) g ≡ option_map bare_message (taken_message p g)
taken-bare p t.RdFault = refl
taken-bare p t.WrFault = refl
taken-bare p (t.Named n) = message-bare p n
taken-bare p t.Default = refl

some-as : {X : Type 0} (f : X → X) (o : Option X) → is_some (option_map f o) ≡ is_some o
some-as f None = refl
some-as f (Some x) = refl

none-as : {X : Type 0} (f : X → X) (o : Option X) → is_none (option_map f o) ≡ is_none o
none-as f None = refl
none-as f (Some x) = refl

length-bare : (ps : List Param) → length (map bare_param ps) ≡ length ps
length-bare ps = length-map ps bare_param

types-bare : (ps : List Param) → map (λ (a : Param). a.ty) (map bare_param ps) ≡ map (λ (a : Param). a.ty) ps
types-bare [] = refl
types-bare (a ∷ ps) = ap (λ ts. a.ty ∷ ts) (types-bare ps)

variables-bare : (ps : List Param) → map of_param (map bare_param ps) ≡ map of_param ps
variables-bare [] = refl
variables-bare (a ∷ ps) = ap (λ vs. of_param a ∷ vs) (variables-bare ps)

args-as : (o : Option MessageDecl) → args_of (option_map bare_message o) ≡ args_of o
args-as None = refl
args-as (Some m) = refl

params-as : (o : Option State) → params_of (option_map bare_state o) ≡ params_of o
params-as None = refl
params-as (Some s) = types-bare s.params

message-count-as : (o : Option MessageDecl) (k : ℕ) → is_message_count (option_map bare_message o) k ≡ is_message_count o k
message-count-as None k = refl
message-count-as (Some m) k = refl

state-count-as : (o : Option State) (k : ℕ) → is_state_count (option_map bare_state o) k ≡ is_state_count o k
state-count-as None k = refl
state-count-as (Some s) k = ap (λ n. k == n) (length-bare s.params)

cont-as : (o : Option State) → has_cont (option_map bare_state o) ≡ has_cont o
cont-as None = refl
cont-as (Some s) = refl

no-cont-as : (o : Option State) → lacks_cont (option_map bare_state o) ≡ lacks_cont o
no-cont-as None = refl
no-cont-as (Some s) = refl

carries-as : (o : Option MessageDecl) → carries (option_map bare_message o) ≡ carries o
carries-as None = refl
carries-as (Some m) = refl

pub message-count : (p : Protocol) (n : Name) (k : ℕ) → is_message_count (message_of (bare_protocol p) n) k
    ≡ is_message_count (message_of p n) k
message-count p n k = ap (λ o. is_message_count o k) (message-bare p n) ∙ message-count-as (message_of p n) k

pub message-none : (p : Protocol) (n : Name) → is_none (message_of (bare_protocol p) n) ≡ is_none (message_of p n)
message-none p n = ap is_none (message-bare p n) ∙ none-as bare_message (message_of p n)

pub state-none : (p : Protocol) (n : Name) → is_none (state_of (bare_protocol p) n) ≡ is_none (state_of p n)
state-none p n = ap is_none (state-bare p n) ∙ none-as bare_state (state_of p n)

wrong-as : (o : Option State) → is_wrong_start (option_map bare_state o) ≡ is_wrong_start o
wrong-as None = refl
wrong-as (Some s) = ap (λ n. not (n == 0) || is_some s.cont) (length-bare s.params)

pub wrong-start : (p : Protocol) (n : Name) → is_wrong_start (state_of (bare_protocol p) n) ≡ is_wrong_start (state_of p n)
wrong-start p n = ap is_wrong_start (state-bare p n) ∙ wrong-as (state_of p n)

message-some : (p : Protocol) (n : Name) → is_some (message_of (bare_protocol p) n) ≡ is_some (message_of p n)
message-some p n = ap is_some (message-bare p n) ∙ some-as bare_message (message_of p n)

message-types : (p : Protocol) (n : Name) → args_of (message_of (bare_protocol p) n) ≡ args_of (message_of p n)
message-types p n = ap args_of (message-bare p n) ∙ args-as (message_of p n)

state-count : (p : Protocol) (n : Name) (k : ℕ) → is_state_count (state_of (bare_protocol p) n) k
    ≡ is_state_count (state_of p n) k
state-count p n k = ap (λ o. is_state_count o k) (state-bare p n) ∙ state-count-as (state_of p n) k

state-some : (p : Protocol) (n : Name) → is_some (state_of (bare_protocol p) n) ≡ is_some (state_of p n)
state-some p n = ap is_some (state-bare p n) ∙ some-as bare_state (state_of p n)

state-types : (p : Protocol) (n : Name) → params_of (state_of (bare_protocol p) n) ≡ params_of (state_of p n)
state-types p n = ap params_of (state-bare p n) ∙ params-as (state_of p n)

has-cont : (p : Protocol) (n : Name) → has_cont (state_of (bare_protocol p) n) ≡ has_cont (state_of p n)
has-cont p n = ap has_cont (state-bare p n) ∙ cont-as (state_of p n)

lacks-cont : (p : Protocol) (n : Name) → lacks_cont (state_of (bare_protocol p) n) ≡ lacks_cont (state_of p n)
lacks-cont p n = ap lacks_cont (state-bare p n) ∙ no-cont-as (state_of p n)

-- ---- variables

locals-bare : (c : Scope) → locals_in (bare_scope c) ≡ locals_in c
locals-bare c = variables-bare c.handler.locals

assignable-bare : (c : Scope) → assignable (bare_scope c) ≡ assignable c
assignable-bare c = λ i. variables-bare c.protocol.infos i ++ variables-bare c.handler.locals i

taken-args : (c : Scope) → args_of (taken_message (bare_protocol c.protocol) c.handler.on)
    ≡ args_of (taken_message c.protocol c.handler.on)
taken-args c = ap args_of (taken-bare c.protocol c.handler.on) ∙ args-as (taken_message c.protocol c.handler.on)

visible-bare : (c : Scope) → visible (bare_scope c) ≡ visible c
visible-bare c = λ i. variables-bare c.protocol.infos i ++ (variables-bare c.state.params i
    ++ (typed c.handler.args (taken-args c i) ++ variables-bare c.handler.locals i))

-- ---- the tests

declared-bare : (c : Scope) (d : Deed) → is_declared (bare_scope c) d ≡ is_declared c d
declared-bare c (does (assign n e)) = ap (λ vs. is_among vs n) (assignable-bare c)
declared-bare c (does (send e n xs)) = message-some c.protocol n
declared-bare c (does (send_all e n xs)) = message-some c.protocol n
declared-bare c (does (set_state n xs)) = state-some c.protocol n
declared-bare c (does (suspend l n xs p)) = ap (λ v. v && bytes_eq p l) (state-some c.protocol n)
declared-bare c (repeats n e) = ap (λ vs. is_among vs n) (locals-bare c)
declared-bare c _ = refl

uses-bare : (c : Scope) (d : Deed) → uses_undeclared (bare_scope c) d ≡ uses_undeclared c d
uses-bare c d =
    λ i. not (declared-bare c d i && list_all (λ e. list_all (λ n. is_among (visible-bare c i) n) (names_in e)) (exprs_at d))

typed-bare : (c : Scope) (d : Deed) → is_typed (bare_scope c) d ≡ is_typed c d
typed-bare c (does (assign n e)) = λ i. is_fit (type_among (assignable-bare c i) n) (type_of (visible-bare c i) e)
typed-bare c (does (send e n xs)) = λ i. is_of Node (type_of (visible-bare c i) e) && are_fit (message-types c.protocol n i)
    (map (λ x. type_of (visible-bare c i) x) xs)
typed-bare c (does (send_all e n xs)) = λ i. is_of Set (type_of (visible-bare c i) e) && are_fit (message-types c.protocol n i)
    (map (λ x. type_of (visible-bare c i) x) xs)
typed-bare c (does (set_state n xs)) = λ i. are_fit (state-types c.protocol n i) (map (λ x. type_of (visible-bare c i) x) xs)
typed-bare c (does (suspend l n xs p)) = λ i. are_fit (state-types c.protocol n i) (map (λ x. type_of (visible-bare c i) x) xs)
typed-bare c (tests e) = λ i. is_of Truth (type_of (visible-bare c i) e)
typed-bare c (repeats n e) = λ i. is_of Node (type_among (locals-bare c i) n) && is_of Set (type_of (visible-bare c i) e)
typed-bare c _ = refl

counted-bare : (c : Scope) (d : Deed) → is_counted (bare_scope c) d ≡ is_counted c d
counted-bare c (does (send e n xs)) = message-count c.protocol n (length xs)
counted-bare c (does (send_all e n xs)) = message-count c.protocol n (length xs)
counted-bare c (does (set_state n xs)) = λ i. state-count c.protocol n
    (length xs) i && (is_some c.state.cont || not (has-cont c.protocol n i))
counted-bare c (does (suspend l n xs p)) = λ i. state-count c.protocol n (length xs) i && not (lacks-cont c.protocol n i)
counted-bare c _ = refl

drops-bare : (c : Scope) (d : Deed) → drops_cont (bare_scope c) d ≡ drops_cont c d
drops-bare c (does (set_state n xs)) = ap (λ v. is_some c.state.cont && v) (lacks-cont c.protocol n)
drops-bare c _ = refl

foreign-bare : (c : Scope) (d : Deed) → resumes_foreign (bare_scope c) d ≡ resumes_foreign c d
foreign-bare c (does (resume n)) = refl
foreign-bare c _ = refl

lacks-bare : (c : Scope) (d : Deed) → lacks_data (bare_scope c) d ≡ lacks_data c d
lacks-bare c (does install) = ap not (ap carries (taken-bare c.protocol c.handler.on)
    ∙ carries-as (taken_message c.protocol c.handler.on))
lacks-bare c _ = refl

pub breaks-bare : (c : Scope) (r : Rule) (had more : Bool) (d : Deed) →
    breaks_at (bare_scope c) r had more d ≡ breaks_at c r had more d
breaks-bare c Undeclared had more d = uses-bare c d
breaks-bare c WrongType had more d = ap not (typed-bare c d)
breaks-bare c ArgCount had more d = ap not (counted-bare c d)
breaks-bare c ContDropped had more d = drops-bare c d
breaks-bare c ResumeForeign had more d = foreign-bare c d
breaks-bare c NoData had more d = lacks-bare c d
breaks-bare c _ had more d = refl
