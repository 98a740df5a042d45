-- The events that words of bits tell, a word a node.
use Rattle.std.specs.Prelude.{ℕ, zero, suc, ◌+◌, ◌*◌, Bool, true, false, List, [], ◌∷◌, ◌++◌, Option, Some, None, length}
use Rattle.std.specs.Prelude.{slice_index}
use Rattle.std.specs.Option.{option_map}
use Rattle.tw_base.specs.declared.entry.Event.{Event}
use Rattle.dsm_runs.specs.Schedules.{node_events}
use Rattle.node_parts.specs.Truths.{truths}

-- the items whose test is true
abbrev pub told : {X : Type 0} → List Bool → List X → List X
told [] xs = []
told (b ∷ bs) [] = []
told (true ∷ bs) (x ∷ xs) = x ∷ told bs xs
told (false ∷ bs) (x ∷ xs) = told bs xs

-- the place of the k-th that is true
abbrev pub true_at : List Bool → ℕ → Option ℕ
true_at [] k = None
true_at (false ∷ bs) k = option_map suc (true_at bs k)
true_at (true ∷ bs) zero = Some 0
true_at (true ∷ bs) (suc k) = option_map suc (true_at bs k)

-- the events of node i of n that its word tells
unfoldable pub told_at : ℕ → ℕ → ℕ → List Event
told_at n i word = told (truths (2 + 2 * n) word) (node_events n i)

-- the events of the nodes below i that their words tell
abbrev pub told_below : ℕ → List ℕ → ℕ → List Event
told_below n words zero = []
told_below n words (suc i) = told_below n words i ++ told_at n i (slice_index words i)

-- the events of all nodes that their words tell
abbrev pub told_events : List ℕ → List Event
told_events words = told_below (length words) words (length words)
