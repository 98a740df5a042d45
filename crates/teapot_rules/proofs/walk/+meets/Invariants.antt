use Rattle.std.proofs.Common.{◌≡◌, drop}
use Rattle.teapot_tree.specs.Bodies.{body_of}
use Rattle.teapot_rules.specs.Deeds.{comes_first}
use Rattle.teapot_rules.specs.Walks.{meets}
use Rattle.teapot_rules.proofs.walk.+meets.Given as goal

abbrev pub invariant-meets-loop-s : goal.invariant-meets-loop-s
invariant-meets-loop-s l = meets (comes_first l.rule) (body_of l.stmts)
    ≡ meets (comes_first l.rule) (body_of (drop l.s-index l.stmts))
