-- Values in the first of an array's places.
use Rattle.std.specs.Prelude.{ℕ, ◌≡◌, ◌-◌, ◌≤◌, List, drop, length, replicate}
use Rattle.tw_base.specs.declared.value.Value.{Value}
use Rattle.tw_base.specs.declared.value.Value.TheVariants.{Int}

-- the first of four places are in use, the others 0
pub record IsPadded (count : ℕ) (places : List Value) : Type 0 where
  pub four : length places ≡ 4
  pub few : count ≤ 4
  pub unused : drop count places ≡ replicate (4 - count) (Int 0)
