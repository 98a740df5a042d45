use Rattle.std.proofs.Common.{ap}
use Rattle.tw_wire.specs.declared.rule.Hand.{Hand}
use Rattle.tw_wire.proofs.Steps.{joins}
use Rattle.tw_wire.proofs.wire.Wire.close.Goals as goal

pub absorb-requires-clause-rule : goal.absorb-requires-clause-rule
absorb-requires-clause-rule g c =
    joins _ _ _ _ (ap (λ (v : Hand). v.takes) c.recv.invariant.2) (ap (λ (v : Hand). v.sends) c.send.invariant.2)
