use Rattle.std.proofs.Common.{ap}
use Rattle.tw_wire.specs.declared.rule.Hand.{Hand}
use Rattle.tw_wire.proofs.Steps.{takes, tells}
use Rattle.tw_wire.proofs.wire.drained.Goals as goal

pub pop_as-requires-clause-rule : goal.pop_as-requires-clause-rule
pop_as-requires-clause-rule g c =
    let h = c.loop.invariant.1 in
    (takes _ _ (ap (λ (v : Hand). v.takes) h), tells _ _ (ap (λ (v : Hand). v.sends) h) (ap (λ (v : Hand). v.takes) h))
