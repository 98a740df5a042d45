-- How many bits of words are 1, kept beside the words.
use Rattle.std.specs.Prelude.{◌≡◌, ℕ, ◌≤◌, List, count_ones, length, map, sum}
use Rattle.std.specs.List.{All}

-- there are few words; `ones` has of each word how many of its bits are 1, and `all` is their sum
pub record AreCounted (words ones : List ℕ) (all : ℕ) : Type 0 where
  pub few : length words ≤ 8
  pub counts : ones ≡ map count_ones words
  pub within : All (λ c. c ≤ 32) ones
  pub total : all ≡ sum ones
