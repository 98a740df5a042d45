use Rattle.std.proofs.Common.{length, ap, arith}
use Rattle.handler_vm.proofs.Entering.{few_locals}
use Rattle.handler_vm.proofs.machine.enter.Goals as goal

pub enter_slots-requires-clause-locals : goal.enter_slots-requires-clause-locals
enter_slots-requires-clause-locals c =
    omega (arith, few_locals c.args.p.now c.args.entry.now.door.now c.protocol.ensures.accepted, ap length c.requires.locals)
