-- Few ops for each of few steps are few.
use Rattle.std.proofs.Common.{ℕ, ◌+◌, ◌*◌, ◌<◌, ◌≤◌, arith}
use Rattle.std.specs.Prelude.{◌^◌}
use Rattle.std.proofs.Math.Nat.{mul-le-mul}

pub few_ops : (n steps ops : ℕ) → n < 2 ^ 22 → steps ≤ 73728 * n + 1 → ops ≤ (2 * n + 2) * steps → ops ≤ 2 ^ 62
few_ops n steps ops few soon each =
    let a : 2 * n + 2 ≤ 8388608 = omega (arith, few) in
    let b : steps ≤ 309237571585 = omega (arith, few, soon) in
    let c : (2 * n + 2) * steps ≤ 8388608 * 309237571585 = mul-le-mul a b in
    omega (arith, c, each)
