use Rattle.std.proofs.Common.{◌*◌, refl, subst, sym}
use Rattle.mini_asm.specs.Machine.{next_of}
use Rattle.mini_asm.specs.declared.cpu.Next.{Next}
use Rattle.blizzard_guard.specs.Running.{IsAccessOf}
use Rattle.node_core.proofs.Stepping.{asked_same, can_step}
use Rattle.node_core.proofs.instruct.instruct.Goals as goal

pub refuse-requires-clause-access : goal.refuse-requires-clause-access
refuse-requires-clause-access c =
    let x = c.args.state.now in
    let n = next_of x.processor.program x.processor.cpu (x.blocks.shape.words * x.blocks.shape.blocks) in
    subst (λ (z : Next). IsAccessOf z c.in-Refused.store c.in-Refused.address)
    (sym (asked_same c.args.setup.now c.args.code.now c.args.me x n c.requires.work refl)) c.in-Refused.ensures.0

pub perform-requires-clause-counted : goal.perform-requires-clause-counted
perform-requires-clause-counted c = can_step c.args.setup.now c.args.code.now c.args.me c.args.state.now c.requires.work
    c.requires.ready

pub returns-in-Goes : goal.returns-in-Goes
returns-in-Goes c =
    let x = c.args.state.now in
    c.perform.ensures.steps c.args.setup.now c.args.code.now c.requires.work
    (asked_same c.args.setup.now c.args.code.now c.args.me x c.in-Goes.next c.requires.work c.in-Goes.ensures.0)
