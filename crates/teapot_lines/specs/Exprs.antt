-- How expressions are spelled, in tokens.
use Rattle.std.specs.Prelude.{List, [], ◌∷◌, ◌++◌}
use Rattle.teapot_tree.specs.declared.keyword.Keyword.{Keyword}
use Rattle.teapot_tree.specs.declared.keyword.Keyword.TheVariants as k
use Rattle.tw_lex.specs.declared.token.Mark.{Mark}
use Rattle.tw_lex.specs.declared.token.Mark.TheVariants as m
use Rattle.teapot_tree.specs.declared.expr.Op.{Op}
use Rattle.teapot_tree.specs.declared.expr.Op.TheVariants.{Add, Sub, Eq, Ne, Lt, Le, And, Or, Has, With, Without}
use Rattle.teapot_tree.specs.declared.expr.Expr.{Expr}
use Rattle.teapot_tree.specs.declared.expr.Expr.TheOpen.{Expr-F}
use Rattle.teapot_tree.specs.declared.expr.Expr.TheFolds.{fold-Expr}
use Rattle.teapot_lines.specs.Seen.{Seen, Key, Named, Number, Marked}

-- an operator is a mark between its operands, or a word before them
pub data Way : Type 0 where
  Infix : Mark → Way
  Before : Keyword → Way

abbrev pub way : Op → Way
way Add = Infix m.Plus
way Sub = Infix m.Minus
way Eq = Infix m.Equal
way Ne = Infix m.Unequal
way Lt = Infix m.Less
way Le = Infix m.LessEqual
way And = Infix m.Both
way Or = Infix m.Either
way Has = Before k.Has
way With = Before k.With
way Without = Before k.Without

abbrev pub one_spelled : Keyword → List Seen → List Seen
one_spelled key a = (Key key ∷ Marked m.Open ∷ a) ++ Marked m.Close ∷ []

abbrev pub two_spelled : Way → List Seen → List Seen → List Seen
two_spelled (Infix mark) a b = (Marked m.Open ∷ a) ++ ((Marked mark ∷ b) ++ Marked m.Close ∷ [])
two_spelled (Before key) a b = (Key key ∷ Marked m.Open ∷ a) ++ ((Marked m.Comma ∷ b) ++ Marked m.Close ∷ [])

abbrev pub spelled_step : Expr-F (List Seen) → List Seen
spelled_step (Expr-F.Number n) = Number n ∷ []
spelled_step Expr-F.True = Key k.True ∷ []
spelled_step Expr-F.False = Key k.False ∷ []
spelled_step Expr-F.Empty = Key k.Empty ∷ []
spelled_step Expr-F.Src = Key k.Src ∷ []
spelled_step Expr-F.SelfNode = Key k.SelfNode ∷ []
spelled_step Expr-F.Home = Key k.Home ∷ []
spelled_step (Expr-F.Var w) = Named w ∷ []
spelled_step (Expr-F.One a) = one_spelled k.One a
spelled_step (Expr-F.Not a) = one_spelled k.Not a
spelled_step (Expr-F.Count a) = one_spelled k.Count a
spelled_step (Expr-F.Two op a b) = two_spelled (way op) a b

unfoldable pub spelled : Expr → List Seen
spelled = fold-Expr (List Seen) spelled_step
