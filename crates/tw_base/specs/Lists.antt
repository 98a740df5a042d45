-- Words on lists and sums that several crates use.
use Rattle.std.specs.Prelude.{ℕ, zero, suc, ◌+◌, min, Bool, true, false, List, [], ◌∷◌, Option, Some, None}

-- each item has the property
abbrev pub Each : {X : Type 0} → (X → Type 0) → List X → Type 0
Each P [] = Unit {0}
Each P (x ∷ xs) = P x × Each P xs

-- the sum of a count over the items
abbrev pub how_many : {X : Type 0} → (X → ℕ) → List X → ℕ
how_many f [] = 0
how_many f (x ∷ xs) = f x + how_many f xs

abbrev pub one_if : Bool → ℕ
one_if true = 1
one_if false = 0

-- f 0 + .. + f (n - 1)
abbrev pub sum_below : ℕ → (ℕ → ℕ) → ℕ
sum_below zero f = 0
sum_below (suc n) f = sum_below n f + f n

-- the lesser of two numbers, where there may be none
abbrev pub lesser : Option ℕ → Option ℕ → Option ℕ
lesser None b = b
lesser (Some a) None = Some a
lesser (Some a) (Some b) = Some (min a b)
