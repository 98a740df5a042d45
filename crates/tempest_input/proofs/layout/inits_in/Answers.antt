use Rattle.tempest_input.proofs.Walking.{inits-turn, inits-end}
use Rattle.tempest_input.proofs.layout.inits_in.Goals as goal

pub loop-init-preserved : goal.loop-init-preserved
loop-init-preserved c = rw c.in_ok-push.ensures.items (inits-turn _ _ _ c.in-Some.init _ c.in-Some.ensures c.loop-init.invariant)

pub returns : goal.returns
returns c = rw c.of.ensures (inits-end _ _ _ _ c.in_default.ensures c.loop-init.invariant)
