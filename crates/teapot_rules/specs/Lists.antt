-- The lines at which a rule is broken, as lists.
use Rattle.std.specs.Prelude.{◌≡◌, ◌↔◌, ℕ, Bool, true, false, List, [], ◌∷◌, ◌++◌, Option, Some, None}
use Rattle.std.specs.List.{list_any}
pub use Rattle.tw_base.specs.Lists.{lesser}
use Rattle.teapot_tree.specs.Rules.{Any}

-- the line is in the list
abbrev pub In : ℕ → List ℕ → Type 0
In line xs = Any (λ x. x ≡ line) xs

-- the list has these lines and no others
abbrev pub Lists : List ℕ → (ℕ → Type 0) → Type 0
Lists xs P = (line : ℕ) → In line xs ↔ P line

abbrev pub line_if : Bool → ℕ → List ℕ
line_if true line = line ∷ []
line_if false line = []

abbrev pub least : List ℕ → Option ℕ
least [] = None
least (x ∷ xs) = lesser (Some x) (least xs)

-- the lines of the items of which an earlier one is the same, where some are known to stand before them
abbrev pub again : {X : Type 0} → (X → X → Bool) → (X → ℕ) → List X → List X → List ℕ
again same line seen [] = []
again same line seen (x ∷ xs) = line_if (list_any (same x) seen) (line x) ++ again same line (seen ++ x ∷ []) xs
