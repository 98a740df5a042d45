use Rattle.std.proofs.Common.{ap}
use Rattle.tw_wire.specs.declared.rule.Hand.{Hand}
use Rattle.tw_wire.proofs.Steps.{sends}
use Rattle.tw_wire.proofs.wire.Wire.push.Goals as goal

pub push_as-requires-clause-rule : goal.push_as-requires-clause-rule
push_as-requires-clause-rule g c = λ n. sends n _ _ _ (ap (λ (v : Hand). v.sends) c.pass.invariant.2)
