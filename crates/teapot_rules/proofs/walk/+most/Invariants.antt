use Rattle.std.proofs.Common.{◌≡◌, ◌≤◌, ◌+◌, min, drop}
use Rattle.teapot_tree.specs.Bodies.{body_of}
use Rattle.teapot_rules.specs.Walks.{most}
use Rattle.teapot_rules.proofs.walk.+most.Given as goal

abbrev pub invariant-most-loop-s : goal.invariant-most-loop-s
invariant-most-loop-s l = record {
  few : l.sum ≤ 33;
  same : min 33 (most (body_of l.stmts))
      ≡ min 33 (l.sum + most (body_of (drop l.s-index l.stmts)));
}
