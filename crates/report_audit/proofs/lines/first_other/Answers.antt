use Rattle.std.proofs.Common.{arith}
use Rattle.report_audit.proofs.Seeking.{other-goes, other-more, other-none, other-stops}
use Rattle.report_audit.proofs.lines.first_other.Goals as goal

pub returns-then-not-is_due : goal.returns-then-not-is_due
returns-then-not-is_due c =
    other-stops c.args.due.now c.args.lines.now c.args.next c.loop-at.at c.index-lines-at.result c.items.result.now
    c.due_at.result c.is_due.result _ c.loop-at-test.true c.index-lines-at.is
    c.items.ensures c.due_at.ensures c.is_due.ensures c.if-not-is_due.true c.loop-at.invariant

pub loop-at-preserved : goal.loop-at-preserved
loop-at-preserved c =
    other-goes c.args.due.now c.args.lines.now c.args.next c.loop-at.at c.index-lines-at.result c.items.result.now
    c.due_at.result c.is_due.result _ c.loop-at-test.true c.index-lines-at.is
    c.items.ensures c.due_at.ensures c.is_due.ensures c.if-not-is_due.false c.loop-at.invariant

pub returns-then-due-lines : goal.returns-then-due-lines
returns-then-due-lines c = other-more c.args.due.now c.args.lines.now c.args.next c.loop-at.at _ (omega arith)
    (omega arith) c.if-due-lines.true c.loop-at.invariant

pub returns-else-due-lines : goal.returns-else-due-lines
returns-else-due-lines c = other-none c.args.due.now c.args.lines.now c.args.next c.loop-at.at _ (omega arith)
    (omega arith) c.if-due-lines.false c.loop-at.invariant
