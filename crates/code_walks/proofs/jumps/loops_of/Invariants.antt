use Rattle.std.proofs.Common.{◌≡◌, ◌-◌, ◌<◌}
use Rattle.code_walks.specs.Jumps.{loops_from}
use Rattle.code_walks.proofs.jumps.loops_of.Given as goal

abbrev pub invariant-loop-at : goal.invariant-loop-at
invariant-loop-at l = record {
  loops : l.loops ≡ loops_from l.code l.fn.part.door.at (l.at - l.fn.part.door.at);
  empty : l.fn.part.end < l.fn.part.door.at → l.at ≡ l.fn.part.door.at;
}
