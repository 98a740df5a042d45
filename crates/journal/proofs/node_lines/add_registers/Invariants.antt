use Rattle.std.proofs.Common.{◌≡◌, ◌++◌, take}
use Rattle.std.specs.List.{flat_map, enumerate_from}
use Rattle.journal.specs.Reports.{register_line}
use Rattle.journal.proofs.node_lines.add_registers.Given as goal

abbrev pub invariant-loop-register : goal.invariant-loop-register
invariant-loop-register l = l.out ≡ l.initial.out ++ flat_map (register_line l.node) (enumerate_from 0 (take l.register l.regs))
