use Rattle.std.proofs.Common.{◌≤◌, length, subst, arith}
use Rattle.handler_code.specs.Machine.{Move}
use Rattle.handler_vm.specs.Chains.{saved_from}
use Rattle.handler_vm.specs.Inside.{OnNext, machine_of}
use Rattle.handler_vm.proofs.Acting.{run_grows, there_more}
use Rattle.handler_vm.proofs.Going.{fits_at, move_is, room_next}
use Rattle.handler_vm.proofs.running.Running.advance.Goals as goal

pub step-requires-clause-ops : goal.step-requires-clause-ops
step-requires-clause-ops c = omega (arith, (run_grows c.args.p.now c.args.code.now c.requires.stops.runs).0, c.requires.stops.ops)

pub step-requires-clause-fits : goal.step-requires-clause-fits
step-requires-clause-fits c =
    let room = c.requires.placed.room in
    omega (
      arith,
      fits_at c.args.p.now c.args.code.now room.depth room.stack c.args.self.now.at c.op_at-op.result
          c.op_at-op.ensures.value,
      c.requires.placed.deep,
    )

pub step-requires-clause-room : goal.step-requires-clause-room
step-requires-clause-room c =
    let p = c.args.p.now in
    let code = c.args.code.now in
    let m = machine_of p c.args.self.now c.args.unsent.now.sent (saved_from p c.args.conts.now c.args.self.now.cont) in
    subst (λ (x : Move). OnNext (λ n. length n.around.sends ≤ c.args.unsent.now.room) x)
    (move_is p code m c.op_at-op.result c.op_at-op.ensures.value)
    (room_next p code c.args.unsent.now.room c.requires.stops.runs c.requires.stops.sends)

pub step-requires-clause-there : goal.step-requires-clause-there
step-requires-clause-there c =
    let at = c.requires.placed in
    there_more c.args.p.now c.args.code.now (at.room.width c.args.self.now.at)
    (length c.args.self.now.slots) c.op_at-op.result at.wide
    (at.room.places.there c.args.self.now.at c.op_at-op.result c.op_at-op.ensures.value)
