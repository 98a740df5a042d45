-- What the names in a handler stand for, and the types of its expressions.
use Rattle.std.specs.Prelude.{ℕ, Bool, true, false, ◌&&◌, List, [], ◌∷◌, ◌++◌, map, find, position, Option, Some, None, is_some}
use Rattle.std.specs.Str.{bytes_eq}
use Rattle.std.specs.Option.{option_and_then}
use Rattle.tw_base.specs.declared.name.Name.{Name}
use Rattle.teapot_tree.specs.declared.expr.Expr.{Expr}
use Rattle.teapot_tree.specs.declared.expr.Expr.TheOpen.{Expr-F}
use Rattle.teapot_tree.specs.declared.expr.Expr.TheFolds.{fold-Expr}
use Rattle.teapot_tree.specs.declared.expr.Op.{Op}
use Rattle.teapot_tree.specs.declared.expr.Op.TheVariants.{Add, Sub, Eq, Ne, Lt, Le, And, Or, Has, With, Without}
use Rattle.teapot_tree.specs.declared.protocol.Handler.{Handler}
use Rattle.teapot_tree.specs.declared.protocol.MessageDecl.{MessageDecl}
use Rattle.teapot_tree.specs.declared.protocol.Param.{Param}
use Rattle.teapot_tree.specs.declared.protocol.Protocol.{Protocol}
use Rattle.teapot_tree.specs.declared.protocol.State.{State}
use Rattle.teapot_tree.specs.declared.protocol.Trigger.{Trigger}
use Rattle.teapot_tree.specs.declared.protocol.Trigger.TheVariants as t
use Rattle.teapot_tree.specs.declared.protocol.ValType.{ValType}
use Rattle.teapot_tree.specs.declared.protocol.ValType.TheVariants.{Int, Node, Set, Bool as Truth}

-- ---- messages and states, each by its first declaration

abbrev pub message_number : Protocol → Name → Option ℕ
message_number p n = position (λ m. bytes_eq m.name n) p.messages

abbrev pub state_number : Protocol → Name → Option ℕ
state_number p n = position (λ s. bytes_eq s.name n) p.states

abbrev pub message_of : Protocol → Name → Option MessageDecl
message_of p n = find (λ m. bytes_eq m.name n) p.messages

abbrev pub state_of : Protocol → Name → Option State
state_of p n = find (λ s. bytes_eq s.name n) p.states

-- ---- variables

-- a handler, in its state
pub record Scope : Type 0 where
  pub protocol : Protocol
  pub state : State
  pub handler : Handler

-- an argument of a message that is declared with fewer has no type
pub record Variable : Type 0 where
  pub name : Name
  pub ty : Option ValType

abbrev pub of_param : Param → Variable
of_param a = record { name = a.name; ty = Some a.ty }

abbrev pub typed : List Name → List ValType → List Variable
typed [] ts = []
typed (n ∷ ns) [] = record { name = n; ty = None } ∷ typed ns []
typed (n ∷ ns) (t ∷ ts) = record { name = n; ty = Some t } ∷ typed ns ts

abbrev pub args_of : Option MessageDecl → List ValType
args_of None = []
args_of (Some m) = m.args

-- the message that a handler is for
abbrev pub taken_message : Protocol → Trigger → Option MessageDecl
taken_message p t.RdFault = None
taken_message p t.WrFault = None
taken_message p (t.Named n) = message_of p n
taken_message p t.Default = None

abbrev pub infos_in : Scope → List Variable
infos_in c = map of_param c.protocol.infos

abbrev pub locals_in : Scope → List Variable
locals_in c = map of_param c.handler.locals

-- what may be assigned
abbrev pub assignable : Scope → List Variable
assignable c = infos_in c ++ locals_in c

-- the infos, the state's arguments, the message's arguments and the locals
abbrev pub visible : Scope → List Variable
visible c =
    infos_in c
    ++ (map of_param c.state.params ++ (typed c.handler.args (args_of (taken_message c.protocol c.handler.on))
    ++ locals_in c))

abbrev pub variable : List Variable → Name → Option Variable
variable vs n = find (λ v. bytes_eq v.name n) vs

abbrev pub is_among : List Variable → Name → Bool
is_among vs n = is_some (variable vs n)

abbrev pub type_among : List Variable → Name → Option ValType
type_among vs n = option_and_then (λ v. v.ty) (variable vs n)

-- ---- types

abbrev pub same_type : ValType → ValType → Bool
same_type Int Int = true
same_type Truth Truth = true
same_type Node Node = true
same_type Set Set = true
same_type _ _ = false

-- whether it is of the type
abbrev pub is_of : ValType → Option ValType → Bool
is_of t None = false
is_of t (Some u) = same_type t u

abbrev pub where_of : Bool → ValType → Option ValType
where_of true t = Some t
where_of false t = None

abbrev pub are_alike : Option ValType → Option ValType → Bool
are_alike None b = false
are_alike (Some t) b = is_of t b

abbrev pub type_of_two : Op → Option ValType → Option ValType → Option ValType
type_of_two Add a b = where_of (is_of Int a && is_of Int b) Int
type_of_two Sub a b = where_of (is_of Int a && is_of Int b) Int
type_of_two Eq a b = where_of (are_alike a b) Truth
type_of_two Ne a b = where_of (are_alike a b) Truth
type_of_two Lt a b = where_of (is_of Int a && is_of Int b) Truth
type_of_two Le a b = where_of (is_of Int a && is_of Int b) Truth
type_of_two And a b = where_of (is_of Truth a && is_of Truth b) Truth
type_of_two Or a b = where_of (is_of Truth a && is_of Truth b) Truth
type_of_two Has a b = where_of (is_of Set a && is_of Node b) Truth
type_of_two With a b = where_of (is_of Set a && is_of Node b) Set
type_of_two Without a b = where_of (is_of Set a && is_of Node b) Set

abbrev pub type_step : List Variable → Expr-F (Option ValType) → Option ValType
type_step vs (Expr-F.Number n) = Some Int
type_step vs Expr-F.True = Some Truth
type_step vs Expr-F.False = Some Truth
type_step vs Expr-F.Empty = Some Set
type_step vs Expr-F.Src = Some Node
type_step vs Expr-F.SelfNode = Some Node
type_step vs Expr-F.Home = Some Node
type_step vs (Expr-F.Var n) = type_among vs n
type_step vs (Expr-F.One a) = where_of (is_of Node a) Set
type_step vs (Expr-F.Not a) = where_of (is_of Truth a) Truth
type_step vs (Expr-F.Count a) = where_of (is_of Set a) Int
type_step vs (Expr-F.Two op a b) = type_of_two op a b

-- the type of an expression; none where some operator takes a value of another type
unfoldable pub type_of : List Variable → Expr → Option ValType
type_of vs = fold-Expr (Option ValType) (type_step vs)
