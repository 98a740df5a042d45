use Rattle.std.proofs.Common.{◌∙◌, ◌<◌, ◌-◌, ◌^◌, ℕ, subst, sym, arith}
use Rattle.handler_code.specs.Machine.{stops}
use Rattle.handler_vm.specs.Chains.{saved_from}
use Rattle.handler_vm.specs.Inside.{machine_of}
use Rattle.handler_vm.proofs.Acting.{grown, run_grows}
use Rattle.handler_vm.proofs.Going.{Underway, underway_next}
use Rattle.handler_vm.proofs.running.Running.go.Goals as goal

pub returns-in-Some-clause-stop : goal.returns-in-Some-clause-stop
returns-in-Some-clause-stop c = let over = c.in-Some.ensures.over in
    (over.0, c.ops.invariant.underway.back over.0 (stops over.1), over.2)

pub ops-smaller : goal.ops-smaller
ops-smaller c =
    let p = c.args.p.now in
    let code = c.args.code.now in
    let g = grown p code (machine_of p c.ops.self c.ops.unsent.sent (saved_from p c.ops.conts c.ops.self.cont))
    (machine_of p c.advance.new.self c.advance.new.unsent.sent (saved_from p c.advance.new.conts c.advance.new.self.cont))
    c.in-None.ensures.on in
    let few : c.ops.self.ops < 2 ^ 64 - 1 = omega (
      arith,
      (run_grows p code c.ops.invariant.underway.stops.runs).0,
      c.ops.invariant.underway.stops.ops,
    ) in
    omega (arith, g.ops, few)

pub ops-preserved : goal.ops-preserved
ops-preserved c =
    let step = c.in-None.ensures in
    record {
      underway =
          subst (λ (room : ℕ). Underway c.args.p.now c.args.code.now c.args.self.now c.args.unsent.now.sent c.args.conts.now
          c.advance.new.self c.advance.new.unsent.sent c.advance.new.conts room) (sym step.room)
          (underway_next c.args.p.now c.args.code.now c.args.self.now c.args.unsent.now.sent c.args.conts.now c.ops.self
          c.advance.new.self c.ops.unsent.sent c.advance.new.unsent.sent c.ops.conts c.advance.new.conts c.ops.unsent.room
          c.ops.invariant.underway step.on step.sound step.spares step.unsent step.block step.words);
      room = step.room ∙ c.ops.invariant.room;
    }
