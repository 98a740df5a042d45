use Rattle.std.proofs.Common.{◌≡◌, ◌-◌, ◌++◌, ◌∙◌, length, replicate, ap, arith}
use Rattle.tw_base.specs.declared.value.Value.TheVariants.{Int}
use Rattle.handler_vm.proofs.values.Slots.fill.Goals as goal

pub returns : goal.returns
returns c =
    let count : c.loop.counter - c.len-width.result ≡ c.args.slots - length c.args.self.now =
    omega (
      arith,
      c.loop.invariant.1,
      c.loop.invariant.2,
      c.loop.invariant.3,
      c.loop-test.false,
      c.from-end.ensures,
      c.len-width.ensures.value,
    ) in
    c.loop.invariant.0 ∙ ap (λ n. c.args.self.now ++ replicate n (Int 0)) count
