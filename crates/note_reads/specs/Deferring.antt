-- What the decider asks of a deferred message.
use Rattle.std.specs.Prelude.{ℕ, Bool, List, map, take, not, nat_eq, nat_lt, ◌||◌}
use Rattle.block_spots.specs.Notes.{Note, kept_notes}
use Rattle.block_spots.specs.Views.{seen_waiting}
use Rattle.dsm_runs.specs.declared.mode.Waiting.{Waiting}

-- the notes of the first k deferred messages of b from node i
abbrev pub kept_to : ℕ → ℕ → ℕ → List Waiting → List Note
kept_to b i k ws = kept_notes b i (map seen_waiting (take k ws))

-- it is not of b and from node n or a later one
abbrev pub is_none_from : ℕ → ℕ → Waiting → Bool
is_none_from b n w = not (nat_eq w.message.block b) || nat_lt w.message.from n

-- it is eligible, where it is of b
abbrev pub is_eligible_for : ℕ → Waiting → Bool
is_eligible_for b w = not (nat_eq w.message.block b) || w.eligible
