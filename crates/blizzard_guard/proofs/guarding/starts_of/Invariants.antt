use Rattle.std.proofs.Common.{◌≡◌, ◌*◌, ◌≤◌, ◌++◌, drop}
use Rattle.blizzard_guard.specs.Guarding.{starts_from}
use Rattle.blizzard_guard.proofs.guarding.starts_of.Given as goal

abbrev pub invariant-loop-instr : goal.invariant-loop-instr
invariant-loop-instr l = record {
  few : l.next ≤ 2 * l.instr-index;
  all : l.starts.items ++ starts_from l.next (drop l.instr-index l.instrs) ≡ starts_from 0 l.instrs;
}
