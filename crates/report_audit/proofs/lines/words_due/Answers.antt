use Rattle.std.proofs.Common.{[]}
use Rattle.report_audit.specs.Lines.{word_due}
use Rattle.report_audit.proofs.Growing.{grown}
use Rattle.report_audit.proofs.lines.words_due.Goals as goal

pub loop-address-preserved : goal.loop-address-preserved
loop-address-preserved c = grown word_due [] c.loop-address.due c.add_word.new.due c.words-words.result.now
    c.loop-address.address _ c.loop-address-test.true c.loop-address.invariant c.in_ok-add_word.ensures
