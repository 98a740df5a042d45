use Rattle.std.proofs.Common.{◌<◌, length, ap, arith}
use Rattle.std.proofs.Math.Seq.{take-set-lt}
use Rattle.std.proofs.lemmas.List.{length-take-le}
use Rattle.handler_vm.proofs.values.Slots.set.Goals as goal

pub returns : goal.returns
returns c =
    let s = c.self.inside in
    let k : c.args.k < s.width = omega (
      arith,
      c.requires,
      ap length c.self.view_is,
      length-take-le s.width s.values (omega (arith, c.self.invariant.0, c.self.invariant.1)),
    ) in
    rw (← c.self.view_is, c.from.ensures) (take-set-lt s.width s.values c.args.k c.args.value k)
