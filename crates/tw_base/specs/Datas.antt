-- The words of a block, kept in an array of eight.
use Rattle.std.specs.Prelude.{◌≡◌, ℕ, ◌-◌, ◌≤◌, List, ◌++◌, length, drop, replicate}

-- the first len of eight words, the others 0
pub record IsPadded (len : ℕ) (words : List ℕ) : Type 0 where
  pub eight : length words ≡ 8
  pub few : len ≤ 8
  pub unused : drop len words ≡ replicate (8 - len) 0

abbrev pub padded : List ℕ → List ℕ
padded ws = ws ++ replicate (8 - length ws) 0
