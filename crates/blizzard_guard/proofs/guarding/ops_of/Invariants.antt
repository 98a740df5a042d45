use Rattle.std.proofs.Common.{◌≡◌, ◌++◌, drop, slice_index}
use Rattle.blizzard_guard.specs.Guarding.{ops_of}
use Rattle.blizzard_guard.proofs.guarding.ops_of.Given as goal

abbrev pub invariant-loop-instr : goal.invariant-loop-instr
invariant-loop-instr l = l.ops ++ ops_of (slice_index l.starts) (drop l.instr-index l.instrs) ≡ ops_of
    (slice_index l.starts) l.instrs
