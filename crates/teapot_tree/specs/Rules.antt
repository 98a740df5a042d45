-- What a protocol may break of the rules of the language, and at which line.
use Rattle.std.specs.Prelude.{◌≡◌, ◌<◌, ◌≤◌, ◌⊎◌, ℕ, Bool, true, false, not, ◌&&◌, ◌||◌, ◌==◌, List, [], ◌∷◌, ◌++◌, map, length}
use Rattle.std.specs.Prelude.{Option, Some, None, is_some, is_none}
use Rattle.std.specs.List.{list_all}
use Rattle.std.specs.Str.{bytes_eq}
use Rattle.tw_base.specs.declared.name.Name.{Name}
use Rattle.teapot_tree.specs.declared.expr.Expr.{Expr}
use Rattle.teapot_tree.specs.declared.protocol.Handler.{Handler}
use Rattle.teapot_tree.specs.declared.protocol.MessageDecl.{MessageDecl}
use Rattle.teapot_tree.specs.declared.protocol.Param.{Param}
use Rattle.teapot_tree.specs.declared.protocol.Protocol.{Protocol}
use Rattle.teapot_tree.specs.declared.protocol.Start.{Start}
use Rattle.teapot_tree.specs.declared.protocol.State.{State}
use Rattle.teapot_tree.specs.declared.protocol.Trigger.{Trigger}
use Rattle.teapot_tree.specs.declared.protocol.Trigger.TheVariants as t
use Rattle.teapot_tree.specs.declared.protocol.ValType.{ValType}
use Rattle.teapot_tree.specs.declared.protocol.ValType.TheVariants.{Node, Set, Bool as Truth}
use Rattle.teapot_tree.specs.declared.rule.Rule.{Rule}
use Rattle.teapot_tree.specs.declared.rule.Rule.TheVariants.{Undeclared, Twice, WrongType, ArgCount, NoDefault, ContDropped}
use Rattle.teapot_tree.specs.declared.rule.Rule.TheVariants.{ResumeNotLast, ResumeForeign, AfterSuspend, NoData, TooManySends}
use Rattle.teapot_tree.specs.declared.rule.Rule.TheVariants.{NotTwoStarts}
use Rattle.teapot_tree.specs.Bodies.{assign, send, send_all, set_state, suspend, resume, install, Body, body_of}
use Rattle.teapot_tree.specs.Grammar.{IsTree}
use Rattle.teapot_tree.specs.Parts.{names_in, simple_exprs}
use Rattle.teapot_tree.specs.Paths.{Deed, does, tests, repeats, goes_on, Step, steps_in, Path, is_enqueue, is_install}
use Rattle.teapot_tree.specs.Paths.{is_suspend, is_resume, Follows, NotLast, Sends}
use Rattle.teapot_tree.specs.Scopes.{message_of, state_of, Scope, args_of, taken_message, locals_in, assignable, visible}
use Rattle.teapot_tree.specs.Scopes.{is_among, type_among, is_of, type_of}

-- some item has the property
abbrev pub Any : {X : Type 0} → (X → Type 0) → List X → Type 0
Any P [] = ⊥
Any P (x ∷ xs) = P x ⊎ Any P xs

-- of two items with one name, the later one stands at the line
abbrev pub Again : {K : Type 0} → List (K × ℕ) → ℕ → Type 0
Again [] line = ⊥
Again (x ∷ xs) line = Any (λ y. (y.0 ≡ x.0) × (y.1 ≡ line)) xs ⊎ Again xs line

-- ---- what a statement breaks by itself

abbrev pub exprs_at : Deed → List Expr
exprs_at (does s) = simple_exprs s
exprs_at (tests e) = e ∷ []
exprs_at (repeats n e) = e ∷ []
exprs_at goes_on = []

abbrev pub is_seen : Scope → Expr → Bool
is_seen c e = list_all (is_among (visible c)) (names_in e)

abbrev pub is_message : Scope → Name → Bool
is_message c n = is_some (message_of c.protocol n)

abbrev pub is_state : Scope → Name → Bool
is_state c n = is_some (state_of c.protocol n)

-- whether the names of a statement, other than those in its expressions, are declared. What is assigned is an info or
-- a local, what takes the members of a set is a local, and the name that a Suspend passes on is its label
abbrev pub is_declared : Scope → Deed → Bool
is_declared c (does (assign n e)) = is_among (assignable c) n
is_declared c (does (send e n xs)) = is_message c n
is_declared c (does (send_all e n xs)) = is_message c n
is_declared c (does (set_state n xs)) = is_state c n
is_declared c (does (suspend l n xs p)) = is_state c n && bytes_eq p l
is_declared c (repeats n e) = is_among (locals_in c) n
is_declared c _ = true

abbrev pub uses_undeclared : Scope → Deed → Bool
uses_undeclared c d = not (is_declared c d && list_all (is_seen c) (exprs_at d))

abbrev pub type_in : Scope → Expr → Option ValType
type_in c e = type_of (visible c) e

-- each argument has the type that is declared for its place, if one is, and else some type
abbrev pub are_fit : List ValType → List (Option ValType) → Bool
are_fit ts [] = true
are_fit [] (a ∷ more) = is_some a && are_fit [] more
are_fit (t ∷ ts) (a ∷ more) = is_of t a && are_fit ts more

abbrev pub is_fit : Option ValType → Option ValType → Bool
is_fit None a = is_some a
is_fit (Some t) a = is_of t a

abbrev pub message_types : Scope → Name → List ValType
message_types c n = args_of (message_of c.protocol n)

abbrev pub params_of : Option State → List ValType
params_of None = []
params_of (Some s) = map (λ (a : Param). a.ty) s.params

abbrev pub state_types : Scope → Name → List ValType
state_types c n = params_of (state_of c.protocol n)

abbrev pub types_in : Scope → List Expr → List (Option ValType)
types_in c es = map (type_in c) es

abbrev pub is_typed : Scope → Deed → Bool
is_typed c (does (assign n e)) = is_fit (type_among (assignable c) n) (type_in c e)
is_typed c (does (send e n xs)) = is_of Node (type_in c e) && are_fit (message_types c n) (types_in c xs)
is_typed c (does (send_all e n xs)) = is_of Set (type_in c e) && are_fit (message_types c n) (types_in c xs)
is_typed c (does (set_state n xs)) = are_fit (state_types c n) (types_in c xs)
is_typed c (does (suspend l n xs p)) = are_fit (state_types c n) (types_in c xs)
is_typed c (tests e) = is_of Truth (type_in c e)
is_typed c (repeats n e) = is_of Node (type_among (locals_in c) n) && is_of Set (type_in c e)
is_typed c _ = true

abbrev pub has_wrong_type : Scope → Deed → Bool
has_wrong_type c d = not (is_typed c d)

abbrev pub is_message_count : Option MessageDecl → ℕ → Bool
is_message_count None k = true
is_message_count (Some m) k = k == length m.args

abbrev pub is_state_count : Option State → ℕ → Bool
is_state_count None k = true
is_state_count (Some s) k = k == length s.params

abbrev pub has_cont : Option State → Bool
has_cont None = false
has_cont (Some s) = is_some s.cont

abbrev pub lacks_cont : Option State → Bool
lacks_cont None = false
lacks_cont (Some s) = is_none s.cont

-- as many arguments as are declared; a Suspend names a state with a continuation, and a SetState in a state without a
-- continuation one without
abbrev pub is_counted : Scope → Deed → Bool
is_counted c (does (send e n xs)) = is_message_count (message_of c.protocol n) (length xs)
is_counted c (does (send_all e n xs)) = is_message_count (message_of c.protocol n) (length xs)
is_counted c (does (set_state n xs)) = is_state_count (state_of c.protocol n)
    (length xs) && (is_some c.state.cont || not (has_cont (state_of c.protocol n)))
is_counted c (does (suspend l n xs p)) = is_state_count (state_of c.protocol n) (length xs) && not
    (lacks_cont (state_of c.protocol n))
is_counted c _ = true

abbrev pub has_wrong_count : Scope → Deed → Bool
has_wrong_count c d = not (is_counted c d)

abbrev pub drops_cont : Scope → Deed → Bool
drops_cont c (does (set_state n xs)) = is_some c.state.cont && lacks_cont (state_of c.protocol n)
drops_cont c _ = false

abbrev pub is_cont : Option Name → Name → Bool
is_cont None n = false
is_cont (Some k) n = bytes_eq k n

abbrev pub resumes_foreign : Scope → Deed → Bool
resumes_foreign c (does (resume n)) = not (is_cont c.state.cont n)
resumes_foreign c _ = false

abbrev pub carries : Option MessageDecl → Bool
carries None = false
carries (Some m) = m.carries

abbrev pub lacks_data : Scope → Deed → Bool
lacks_data c (does install) = not (carries (taken_message c.protocol c.handler.on))
lacks_data c _ = false

-- ---- where a rule is broken

abbrev pub body_in : Scope → Body
body_in c = body_of c.handler.body

-- at a statement of some handler
abbrev pub AtStep : (Scope → Deed → Bool) → Scope → ℕ → Type 0
AtStep breaks c line = Any (λ (s : Step). (s.line ≡ line) × (breaks c s.deed ≡ true)) (steps_in (body_in c))

abbrev pub OnPath : (List Step → Type 0) → Scope → Type 0
OnPath P c = (p : List Step) × Path (body_in c) p × P p

abbrev pub InHandler : (Scope → Type 0) → Protocol → Type 0
InHandler P p = Any (λ (s : State). Any (λ (h : Handler). P (record { protocol = p; state = s; handler = h })) s.handlers)
    p.states

abbrev pub answers_undeclared : Protocol → Trigger → Bool
answers_undeclared p (t.Named n) = is_none (message_of p n)
answers_undeclared p _ = false

abbrev pub counts_wrongly : Protocol → Trigger → List Name → Bool
counts_wrongly p t.RdFault args = not (length args == 0)
counts_wrongly p t.WrFault args = not (length args == 0)
counts_wrongly p (t.Named n) args = not (is_message_count (message_of p n) (length args))
counts_wrongly p t.Default args = false

abbrev pub AtHandler : Bool → Scope → ℕ → Type 0
AtHandler breaks c line = (c.handler.line ≡ line) × (breaks ≡ true)

-- the names that are visible in a handler, and where they are declared
abbrev pub visible_names : Scope → List (Name × ℕ)
visible_names c =
    map (λ (a : Param). (a.name, a.line)) c.protocol.infos
    ++ (map (λ (a : Param). (a.name, a.line)) c.state.params
    ++ (map (λ n. (n, c.handler.line)) c.handler.args
    ++ map (λ (a : Param). (a.name, a.line)) c.handler.locals))

abbrev pub is_default : Trigger → Bool
is_default t.Default = true
is_default _ = false

-- what may not follow a Suspend. In profile 2 a rest keeps the data of its message
abbrev pub is_late : ℕ → Deed → Bool
is_late profile d = is_enqueue d || ((profile == 1) && is_install d)

abbrev pub is_wrong_start : Option State → Bool
is_wrong_start None = false
is_wrong_start (Some s) = not (length s.params == 0) || is_some s.cont

abbrev pub has_default : State → Bool
has_default s = not (list_all (λ (h : Handler). not (is_default h.on)) s.handlers)

-- the line and the rule that is broken there. Of what stands twice the later one is at fault
abbrev pub Breaks : Protocol → ℕ → Rule → Type 0
Breaks p line Undeclared =
    Any (λ (s : Start). (s.line ≡ line) × (is_none (state_of p s.state) ≡ true)) p.starts
    ⊎ InHandler (λ c. AtHandler (answers_undeclared p c.handler.on) c line ⊎ AtStep uses_undeclared c line) p
Breaks p line Twice =
    Again (map (λ (m : MessageDecl). (m.name, m.line)) p.messages) line
    ⊎ Again (map (λ (a : Param). (a.name, a.line)) p.infos) line
    ⊎ Again (map (λ (s : State). (s.name, s.line)) p.states) line
    ⊎ Any (λ (s : State). (s.line ≡ line) × Any (λ (a : Param). s.cont ≡ Some a.name) s.params) p.states
    ⊎ Any (λ (s : State). Again (map (λ (h : Handler). (h.on, h.line)) s.handlers) line) p.states
    ⊎ InHandler (λ c. Again (visible_names c) line ⊎ OnPath (Follows is_enqueue is_enqueue line) c) p
Breaks p line WrongType = InHandler (λ c. AtStep has_wrong_type c line) p
Breaks p line ArgCount =
    Any (λ (s : Start). (s.line ≡ line) × (is_wrong_start (state_of p s.state) ≡ true)) p.starts
    ⊎ InHandler (λ c. AtHandler (counts_wrongly p c.handler.on c.handler.args) c line ⊎ AtStep has_wrong_count c line) p
Breaks p line NoDefault = Any (λ (s : State). (s.line ≡ line) × (has_default s ≡ false)) p.states
Breaks p line ContDropped = InHandler (λ c. AtStep drops_cont c line) p
Breaks p line ResumeNotLast = InHandler (OnPath (NotLast is_resume line)) p
Breaks p line ResumeForeign = InHandler (λ c. AtStep resumes_foreign c line) p
Breaks p line AfterSuspend = InHandler (OnPath (Follows is_suspend (is_late p.profile) line)) p
Breaks p line NoData = InHandler (λ c. AtStep lacks_data c line) p
Breaks p line TooManySends = InHandler (λ c. (c.handler.line ≡ line) × ((n : ℕ) × Sends (body_in c) n × (32 < n))) p
Breaks p line NotTwoStarts =
    Again (map (λ (s : Start). (s.home, s.line)) p.starts) line
    ⊎ ((p.line ≡ line) × (length p.starts < 2))

-- a tree that the grammar gives and that breaks no rule
pub record IsAccepted (p : Protocol) : Type 0 where
  pub tree : IsTree p
  pub keeps : (line : ℕ) (rule : Rule) → ¬ Breaks p line rule

-- the place of a rule in their order
abbrev pub rank : Rule → ℕ
rank Undeclared = 1
rank Twice = 2
rank WrongType = 3
rank ArgCount = 4
rank NoDefault = 5
rank ContDropped = 6
rank ResumeNotLast = 7
rank ResumeForeign = 8
rank AfterSuspend = 9
rank NoData = 10
rank TooManySends = 11
rank NotTwoStarts = 12

-- it is broken there, nothing is broken at a lesser line, and no lesser rule at this line
pub record IsFirstBreak (p : Protocol) (line : ℕ) (rule : Rule) : Type 0 where
  pub broken : Breaks p line rule
  pub first : (l : ℕ) (r : Rule) → Breaks p l r → (line < l) ⊎ ((line ≡ l) × (rank rule ≤ rank r))
