use Rattle.std.proofs.Common.{◌≡◌, drop}
use Rattle.teapot_tree.specs.Bodies.{body_of}
use Rattle.teapot_rules.specs.Deeds.{scope_of, comes_first, breaks_at}
use Rattle.teapot_rules.specs.Lists.{lesser, least}
use Rattle.teapot_rules.specs.Walks.{walk}
use Rattle.teapot_check.proofs.walk.+walk.Given as goal

abbrev pub invariant-walk-loop-at : goal.invariant-walk-loop-at
invariant-walk-loop-at l =
    least (walk (comes_first l.rule) (breaks_at (scope_of l.sight.scope) l.rule) (body_of l.stmts) l.had l.more)
    ≡ lesser l.least
    (least (walk (comes_first l.rule) (breaks_at (scope_of l.sight.scope) l.rule) (body_of (drop l.at l.stmts)) l.came l.more))
