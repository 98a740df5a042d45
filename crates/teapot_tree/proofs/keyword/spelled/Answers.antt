use Rattle.std.proofs.Common.{true, false, sym, ◌∙◌}
use Rattle.teapot_tree.proofs.Spelled.{at_entry}
use Rattle.teapot_tree.proofs.keyword.spelled.Goals as goal

pub returns-then-eq : goal.returns-then-eq
returns-then-eq c = sym (c.loop-entry.invariant ∙ at_entry _ _ _ _ true c.loop-entry-test.true c.if-eq.ensures)

pub loop-entry-preserved : goal.loop-entry-preserved
loop-entry-preserved c = c.loop-entry.invariant ∙ at_entry _ _ _ _ false c.loop-entry-test.true c.if-eq.ensures
