-- The values of expressions.
use Rattle.std.specs.Prelude.{ℕ, ◌+◌, ◌-◌, ◌^◌, min, Bool, true, false, not, ◌&&◌, ◌||◌, ◌==◌, nat_lt, nat_le, List, Option}
use Rattle.std.specs.Prelude.{Some, None, slice_get, find, unwrap_or, codes}
use Rattle.std.specs.Str.{bytes_eq}
use Rattle.tw_base.specs.declared.name.Name.{Name}
use Rattle.tw_base.specs.NodeSets.{bits_of, count, empty, has, one, with, without}
use Rattle.tw_base.specs.declared.value.Value.{Value}
use Rattle.tw_base.specs.declared.value.Value.TheVariants as v
use Rattle.teapot_tree.specs.declared.expr.Op.{Op}
use Rattle.teapot_tree.specs.declared.expr.Op.TheVariants.{Add, Sub, Eq, Ne, Lt, Le, And, Or, Has, With, Without}
use Rattle.teapot_tree.specs.declared.expr.Expr.{Expr}
use Rattle.teapot_tree.specs.declared.expr.Expr.TheOpen.{Expr-F}
use Rattle.teapot_tree.specs.declared.expr.Expr.TheFolds.{fold-Expr}
use Rattle.teapot_tree.specs.declared.protocol.Protocol.{Protocol}
use Rattle.teapot_meaning.specs.Names.{info_number}
use Rattle.teapot_meaning.specs.declared.state.Bound.{Bound}
use Rattle.teapot_meaning.specs.declared.state.Running.{Running}

abbrev pub same_bool : Bool → Bool → Bool
same_bool true b = b
same_bool false b = not b

abbrev pub same_value : Value → Value → Bool
same_value (v.Int a) (v.Int b) = a == b
same_value (v.Bool a) (v.Bool b) = same_bool a b
same_value (v.Node a) (v.Node b) = a == b
same_value (v.Set a) (v.Set b) = bits_of a == bits_of b
same_value _ _ = false

-- Sums and differences stop at the ends of the range. What has no type has the value 0.
abbrev pub two_of : Op → Value → Value → Value
two_of Add (v.Int a) (v.Int b) = v.Int (min (a + b) (2 ^ 32 - 1))
two_of Sub (v.Int a) (v.Int b) = v.Int (a - b)
two_of Eq a b = v.Bool (same_value a b)
two_of Ne a b = v.Bool (not (same_value a b))
two_of Lt (v.Int a) (v.Int b) = v.Bool (nat_lt a b)
two_of Le (v.Int a) (v.Int b) = v.Bool (nat_le a b)
two_of And (v.Bool a) (v.Bool b) = v.Bool (a && b)
two_of Or (v.Bool a) (v.Bool b) = v.Bool (a || b)
two_of Has (v.Set s) (v.Node n) = v.Bool (has s n)
two_of With (v.Set s) (v.Node n) = v.Set (with s n)
two_of Without (v.Set s) (v.Node n) = v.Set (without s n)
two_of _ _ _ = v.Int 0

abbrev pub not_of : Value → Value
not_of (v.Bool b) = v.Bool (not b)
not_of _ = v.Int 0

abbrev pub one_of : Value → Value
one_of (v.Node n) = v.Set (one n)
one_of _ = v.Int 0

abbrev pub count_of : Value → Value
count_of (v.Set s) = v.Int (count s)
count_of _ = v.Int 0

abbrev pub bound_in : List Bound → Name → Option Bound
bound_in vars name = find (λ b. bytes_eq b.name name) vars

abbrev pub info_at : List Value → Option ℕ → Value
info_at infos (Some i) = unwrap_or (slice_get infos i) (v.Int 0)
info_at infos None = v.Int 0

-- a variable of the handler, else an info
abbrev pub variable_or : Option Bound → Value → Value
variable_or (Some b) info = b.value
variable_or None info = info

unfoldable pub variable : Protocol → Running → Name → Value
variable p r name = variable_or (bound_in r.vars name) (info_at r.here.infos (info_number p name))

-- one level of an expression, with the values of its parts
abbrev pub value_step : Protocol → Running → Expr-F Value → Value
value_step p r (Expr-F.Number n) = v.Int n
value_step p r Expr-F.True = v.Bool true
value_step p r Expr-F.False = v.Bool false
value_step p r Expr-F.Empty = v.Set empty
value_step p r Expr-F.Src = variable p r (codes "src")
value_step p r Expr-F.SelfNode = v.Node r.here.me
value_step p r Expr-F.Home = v.Node r.here.home
value_step p r (Expr-F.Var name) = variable p r name
value_step p r (Expr-F.One a) = one_of a
value_step p r (Expr-F.Not a) = not_of a
value_step p r (Expr-F.Count a) = count_of a
value_step p r (Expr-F.Two op a b) = two_of op a b

unfoldable pub value_of : Protocol → Running → Expr → Value
value_of p r = fold-Expr Value (value_step p r)
