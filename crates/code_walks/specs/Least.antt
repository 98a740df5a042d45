-- The least of the places at which something holds.
use Rattle.std.specs.Prelude.{ℕ, ◌≤◌, Option, Some, None}

-- the least place at which it holds, if there is one
abbrev pub IsLeast : (ℕ → Type 0) → Option ℕ → Type 0
IsLeast P None = (at : ℕ) → P at → ⊥
IsLeast P (Some least) = P least × ((at : ℕ) → P at → least ≤ at)
