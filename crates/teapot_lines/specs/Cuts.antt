-- What is kept of an expression while it is read: no tree that is too deep.
use Rattle.std.specs.Prelude.{ℕ, ◌+◌, max, nat_lt, if◌then◌else◌}
use Rattle.teapot_tree.specs.declared.expr.Op.{Op}
use Rattle.teapot_tree.specs.declared.expr.Expr.{Expr}
use Rattle.teapot_tree.specs.declared.expr.Expr.TheOpen.{Expr-F}
use Rattle.teapot_tree.specs.declared.expr.Expr.TheFolds.{fold-Expr}
use Rattle.teapot_tree.specs.declared.expr.Expr.TheVariants as e
use Rattle.teapot_lines.specs.declared.cut.Cut.{Cut}
use Rattle.teapot_lines.specs.declared.cut.Cut.TheVariants.{Deep, Kept}
use Rattle.teapot_lines.specs.declared.cut.Unary.{Unary}
use Rattle.teapot_lines.specs.declared.cut.Unary.TheVariants.{One, Not, Count}

abbrev pub leaf : Expr → Cut
leaf tree = Kept 1 tree

abbrev pub applied : Unary → Expr → Expr
applied One a = e.One a
applied Not a = e.Not a
applied Count a = e.Count a

abbrev pub one_of : Unary → Cut → Cut
one_of word Deep = Deep
one_of word (Kept n a) = if nat_lt n 16 then Kept (n + 1) (applied word a) else Deep

abbrev pub two_kept : Op → ℕ → Expr → Cut → Cut
two_kept op m a Deep = Deep
two_kept op m a (Kept n b) = if nat_lt n 16 then Kept (max m n + 1) (e.Two op a b) else Deep

abbrev pub two_of : Op → Cut → Cut → Cut
two_of op Deep c = Deep
two_of op (Kept m a) c = if nat_lt m 16 then two_kept op m a c else Deep

abbrev pub cut_step : Expr-F Cut → Cut
cut_step (Expr-F.Number n) = leaf (e.Number n)
cut_step Expr-F.True = leaf e.True
cut_step Expr-F.False = leaf e.False
cut_step Expr-F.Empty = leaf e.Empty
cut_step Expr-F.Src = leaf e.Src
cut_step Expr-F.SelfNode = leaf e.SelfNode
cut_step Expr-F.Home = leaf e.Home
cut_step (Expr-F.Var w) = leaf (e.Var w)
cut_step (Expr-F.One a) = one_of One a
cut_step (Expr-F.Not a) = one_of Not a
cut_step (Expr-F.Count a) = one_of Count a
cut_step (Expr-F.Two op a b) = two_of op a b

unfoldable pub cut : Expr → Cut
cut = fold-Expr Cut cut_step
