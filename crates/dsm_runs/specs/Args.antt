-- The arguments of a message, in four places. There are at most four; places that are not used are 0.
use Rattle.std.specs.Prelude.{◌≡◌, ◌-◌, ◌≤◌, ◌++◌, drop, length, replicate, take, List}
use Rattle.std.proofs.Common.{arith}
use Rattle.std.proofs.Math.Seq.{drop-append_seam}
use Rattle.std.proofs.lemmas.List.{length-take}
use Rattle.tw_base.specs.declared.value.Value.{Value}
use Rattle.tw_base.specs.declared.value.Value.TheVariants.{Int}

-- those that are used
abbrev pub used_args : List Value → List Value
used_args args = take 4 args

abbrev pub padded_args : List Value → List Value
padded_args args = used_args args ++ replicate (4 - length (used_args args)) (Int 0)

pub few_args : (args : List Value) → length (used_args args) ≤ 4
few_args args = omega (arith, length-take 4 args)

pub unused_args : (args : List Value) → drop (length (used_args args)) (padded_args args)
    ≡ replicate (4 - length (used_args args)) (Int 0)
unused_args args = drop-append_seam (used_args args) (replicate (4 - length (used_args args)) (Int 0))
