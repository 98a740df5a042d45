use Rattle.std.proofs.Common.{◌≡◌, ◌≤◌, ◌+◌, min, drop}
use Rattle.teapot_tree.specs.Bodies.{body_of}
use Rattle.teapot_tree.specs.Parts.{loops}
use Rattle.code_rules.proofs.structure.+loops.Given as goal

abbrev pub invariant-loops-loop-s : goal.invariant-loops-loop-s
invariant-loops-loop-s l = record {
  few : l.sum ≤ 256;
  same : min 256 (loops (body_of l.stmts))
      ≡ min 256 (l.sum + loops (body_of (drop l.s-index l.stmts)));
}
