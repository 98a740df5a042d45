use Rattle.std.proofs.Common.{◌≡◌, ◌++◌, drop}
use Rattle.blizzard_guard.specs.Guarding.{places_from}
use Rattle.blizzard_guard.proofs.guarding.places_of.Given as goal

abbrev pub invariant-loop-instr : goal.invariant-loop-instr
invariant-loop-instr l = record {
  at : l.place ≡ l.instr-index;
  all : l.places ++ places_from l.place (drop l.instr-index l.instrs) ≡ places_from 0 l.instrs;
}
