-- What one step of a seat does, wire by wire. A wire is told by its place.
use Rattle.std.specs.Prelude.{◌≡◌, ℕ, ◌<◌, ◌≤◌, ◌⊎◌, Bool, false, Option, None, slice_get}
use Rattle.std.specs.List.{slice_index_or}
use Rattle.tw_base.specs.declared.message.Message.{Message}
use Rattle.dsm_runs.specs.Tests.{is_early}
use Rattle.seat_meaning.specs.Seats.{Seated, looks_of}
use Rattle.node_seats.specs.Turns.{Rose}

-- the message that the node keeps of the wire at this place
abbrev pub front_in : Seated → ℕ → Option Message
front_in s k = slice_index_or s.node.fronts k None

abbrev pub closed_in : Seated → ℕ → Bool
closed_in s k = slice_index_or s.closed k false

abbrev pub looks_in : Seated → ℕ → ℕ
looks_in s k = looks_of (slice_get s.ends.recvs k)

-- nothing changed at this wire
pub record IsUntouched (old new : Seated) (k : ℕ) : Type 0 where
  pub front : front_in new k ≡ front_in old k
  pub closed : closed_in new k ≡ closed_in old k
  pub looks : looks_in new k ≡ looks_in old k

-- no number of looks fell
abbrev pub AreNotLower : Seated → Seated → Type 0
AreNotLower old new = (k : ℕ) → looks_in old k ≤ looks_in new k

-- messages were kept of wires at places from low to high, and no event was made
pub record HasKept (old new : Seated) (low high : ℕ) : Type 0 where
  pub node : new.node ≡ record old.node { fronts = new.node.fronts; accepted = new.node.accepted }
  pub looked : (k : ℕ) → low ≤ k → k < high → front_in new k ≡ None → closed_in new k ≡ false
      → Rose (looks_in old k) (looks_in new k)
  pub not_lower : AreNotLower old new
  pub others : (k : ℕ) → (k < low) ⊎ (high ≤ k) → IsUntouched old new k

-- The wires at places from low to high were looked at. What the node keeps of them now may not be delivered.
pub record HasTried (old new : Seated) (low high : ℕ) : Type 0 where
  pub kept : HasKept old new low high
  pub late : (k : ℕ) → low ≤ k → k < high → is_early (front_in new k) ≡ false
