use Rattle.node_core.proofs.Early.{early_all, early_eligible, early_none}
use Rattle.node_core.proofs.tests.early_fronts.Goals as goal

pub returns-then-not-handles : goal.returns-then-not-handles
returns-then-not-handles c = (c.early-early.result, c.early-early.ensures, early_none _ _ _ c.if-not-handles.true)

pub returns-then-eligible : goal.returns-then-eligible
returns-then-eligible c = (c.early-early.result, c.early-early.ensures, early_eligible _ _ _ c.if-eligible.true)

pub returns : goal.returns
returns c = (c.early-early.result, c.early-early.ensures, early_all _ _ _ c.if-not-handles.false c.if-eligible.false)
