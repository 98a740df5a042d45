use Rattle.std.proofs.Common.{◌≡◌, ◌++◌, take}
use Rattle.std.specs.List.{flat_map, enumerate_from}
use Rattle.report_audit.specs.Lines.{register_due}
use Rattle.report_audit.proofs.lines.add_regs.Given as goal

abbrev pub invariant-loop-register : goal.invariant-loop-register
invariant-loop-register l = l.due ≡ l.initial.due ++ flat_map (register_due l.node) (enumerate_from 0 (take l.register l.regs))
