use Rattle.std.proofs.Common.{ap}
use Rattle.tw_wire.specs.declared.rule.Hand.{Hand}
use Rattle.tw_wire.proofs.Steps.{takes}
use Rattle.tw_wire.proofs.wire.Wire.pop.Goals as goal

pub pop_as-message-requires-clause-rule : goal.pop_as-message-requires-clause-rule
pop_as-message-requires-clause-rule g c = (takes _ _ (ap (λ (v : Hand). v.takes) c.pass.invariant.2), λ items views h at. tt)
