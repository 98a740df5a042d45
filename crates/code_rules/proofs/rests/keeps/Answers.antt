use Rattle.std.proofs.Common.{◌-◌, ◌<◌, ◌^◌, bit_and, arith, refl}
use Rattle.std.proofs.lemmas.Nat.{and_le_l}
use Rattle.code_rules.proofs.RestLemmas.{keeps_by}
use Rattle.code_rules.proofs.rests.keeps.Goals as goal

pub returns : goal.returns
returns c =
    let read = c.slots_at.result in
    let rest = c.args.rest in
    let few : read < 2 ^ 32 = omega arith in
    let low : rest.live < 2 ^ 32 = omega arith in
    let lost = bit_and read (4294967295 - rest.live) in
    let small : lost < 2 ^ 32 = omega (arith, and_le_l read (4294967295 - rest.live)) in
    keeps_by c.args.table.now rest read few low c.slots_at.ensures lost small refl
