use Rattle.std.proofs.Common.{sym, arith}
use Rattle.std.proofs.lemmas.List.{length-take-le}
use Rattle.handler_vm.proofs.values.Slots.len.Goals as goal

pub returns-clause-value : goal.returns-clause-value
returns-clause-value c =
    rw (← c.self.view_is)
    (sym (length-take-le c.self.inside.width c.self.inside.values (omega (arith, c.self.invariant.0, c.self.invariant.1))))
