-- Truth values as the bits of a number.
use Rattle.std.specs.Prelude.{ℕ, zero, suc, ◌/◌, ◌%◌, ◌==◌, Bool, List, [], ◌∷◌}

-- the n lowest bits, the lowest first
unfoldable pub truths : ℕ → ℕ → List Bool
truths zero bits = []
truths (suc n) bits = (bits % 2 == 1) ∷ truths n (bits / 2)
