use Rattle.std.proofs.Common.{ℕ, List, [], ◌++◌, ap, ◌∙◌}
use Rattle.report_audit.specs.declared.due.Due.{Due}
use Rattle.report_audit.specs.Lines.{registers_due}
use Rattle.report_audit.proofs.Growing.{grown_to}
use Rattle.report_audit.proofs.lines.registers_due.Goals as goal

pub loop-number-preserved : goal.loop-number-preserved
loop-number-preserved c =
    let f : ℕ → List Due = registers_due c.args.flat.now in
    let before : List Due = c.loop-number.due in
    let at = rw c.unwrap-node.ensures at c.new.ensures in
    grown_to f [] before c.add_registers.new.due c.loop-number.number c.loop-number.invariant
    (c.in_ok-add_registers.ensures ∙ ap (λ (k : ℕ). before ++ f k) at.1)
