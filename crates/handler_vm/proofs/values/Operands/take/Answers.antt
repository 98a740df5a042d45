use Rattle.std.proofs.Common.{◌≡◌, ◌≤◌, ◌-◌, ◌∙◌, length, take, ap, arith}
use Rattle.std.proofs.lemmas.List.{length-reverse, length-take-le}
use Rattle.handler_vm.proofs.Stacks.{taken_all, left_all}
use Rattle.handler_vm.proofs.values.Operands.take.Goals as goal

pub returns-clause-args : goal.returns-clause-args
returns-clause-args c =
    let s = c.self.inside in
    let within : s.len ≤ length s.values = omega (arith, c.self.invariant.0, c.self.invariant.1) in
    let few : c.args.count ≤ s.len = omega (
      arith,
      c.requires.enough,
      ap length c.self.view_is,
      length-reverse (take s.len s.values),
      length-take-le s.len s.values within,
    ) in
    let count : s.len - (s.len - c.args.count) ≡ c.args.count = omega (arith, few) in
    rw (← c.self.view_is) (c.of.ensures ∙ taken_all s.values (s.len - c.args.count) s.len (omega arith) within c.args.count count)

pub returns-clause-rest : goal.returns-clause-rest
returns-clause-rest c =
    let s = c.self.inside in
    let within : s.len ≤ length s.values = omega (arith, c.self.invariant.0, c.self.invariant.1) in
    let few : c.args.count ≤ s.len = omega (
      arith,
      c.requires.enough,
      ap length c.self.view_is,
      length-reverse (take s.len s.values),
      length-take-le s.len s.values within,
    ) in
    let count : s.len - (s.len - c.args.count) ≡ c.args.count = omega (arith, few) in
    rw (← c.self.view_is) (left_all s.values (s.len - c.args.count) s.len (omega arith) within c.args.count count)
