use Rattle.std.proofs.Common.{◌≡◌, drop}
use Rattle.teapot_tree.specs.Bodies.{body_of}
use Rattle.teapot_rules.specs.Deeds.{scope_of}
use Rattle.teapot_rules.specs.Walks.{meets}
use Rattle.teapot_check.specs.Passing.{looked}
use Rattle.teapot_check.proofs.passing.+finds.Given as goal

abbrev pub invariant-finds-loop-s : goal.invariant-finds-loop-s
invariant-finds-loop-s l = meets (looked l.look (scope_of l.sight.scope)) (body_of l.stmts)
    ≡ meets (looked l.look (scope_of l.sight.scope)) (body_of (drop l.s-index l.stmts))
