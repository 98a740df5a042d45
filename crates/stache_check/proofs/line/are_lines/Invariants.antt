use Rattle.std.proofs.Common.{◌≡◌, map, take}
use Rattle.teapot_tree.specs.Bare.{bare}
use Rattle.stache_check.specs.Words.{line_of}
use Rattle.stache_check.proofs.line.are_lines.Given as goal

abbrev pub invariant-loop-at : goal.invariant-loop-at
invariant-loop-at l = map bare (take l.at l.stmts) ≡ map line_of (take l.at l.lines)
