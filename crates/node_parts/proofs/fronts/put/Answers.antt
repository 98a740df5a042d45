use Rattle.std.proofs.Common.{◌∙◌, sym}
use Rattle.node_parts.proofs.Bits.{set_here, set_others, clear_here, clear_others}
use Rattle.node_parts.proofs.fronts.put.Goals as goal

pub returns-then-on-clause-here : goal.returns-then-on-clause-here
returns-then-on-clause-here c = set_here _ _ c.requires ∙ sym c.if-on.true

pub returns-then-on-clause-others : goal.returns-then-on-clause-others
returns-then-on-clause-others c = λ k lt ne. set_others _ _ k c.requires ne

pub returns-else-on-clause-here : goal.returns-else-on-clause-here
returns-else-on-clause-here c = clear_here _ _ c.requires ∙ sym c.if-on.false

pub returns-else-on-clause-others : goal.returns-else-on-clause-others
returns-else-on-clause-others c = λ k lt ne. clear_others _ _ k c.requires lt ne
