-- The queues of deferred messages, and the one list that they are.
use Rattle.std.specs.Prelude.{◌≡◌, ℕ, zero, suc, ◌<◌, ◌≤◌, Bool, true, false, if◌then◌else◌, nat_eq, nat_lt, length, List, []}
use Rattle.std.specs.Prelude.{◌∷◌, ◌++◌, Option, Some, None, map, is_some, slice_get}
use Rattle.std.specs.List.{filter, flat_map}
use Rattle.tw_base.specs.Lists.{Each}
use Rattle.dsm_runs.specs.declared.mode.Waiting.{Waiting}
use Rattle.deferred_queues.specs.declared.held.Held.{Held}

-- the queue of a block: its messages, the arrival number below which they are eligible, and for how many there is memory
pub record BlockQueue : Type 0 where
  pub held : List Held
  pub below : ℕ
  pub room : ℕ

-- the arrival number of the first message, where it is below a number
abbrev pub first_before : ℕ → List Held → Option ℕ
first_before below [] = None
first_before below (h ∷ hs) = if nat_lt h.arrival below then Some h.arrival else None

-- the arrival number of the first message, where it is eligible
abbrev pub first_of : BlockQueue → Option ℕ
first_of q = first_before q.below q.held

-- the first message is eligible
abbrev pub is_open : BlockQueue → Bool
is_open q = is_some (first_of q)

-- the queue with a message behind the others
abbrev pub pushed : BlockQueue → Held → BlockQueue
pushed q h = record q { held = q.held ++ h ∷ [] }

-- the queue whose messages that arrived before the n-th are eligible
abbrev pub freed : ℕ → BlockQueue → BlockQueue
freed n q = record q { below = n }

-- the queue from which h was taken, where q is left
abbrev pub before : BlockQueue → Held → BlockQueue
before q h = record q { held = h ∷ q.held }

-- nothing in it, and room for one message
pub record IsEmptyQueue (q : BlockQueue) : Type 0 where
  pub held : q.held ≡ []
  pub below : q.below ≡ 0
  pub room : 0 < q.room

abbrev pub AreEmpty : ℕ → List BlockQueue → Type 0
AreEmpty n qs = (length qs ≡ n) × Each IsEmptyQueue qs

-- the first of two arrival numbers is there, and below the second if that is there
abbrev pub is_earlier : Option ℕ → Option ℕ → Bool
is_earlier None b = false
is_earlier (Some a) None = true
is_earlier (Some a) (Some b) = nat_lt a b

-- no eligible message of the queue came before the a-th
abbrev pub StartsFrom : ℕ → BlockQueue → Type 0
StartsFrom a q = (c : ℕ) → first_of q ≡ Some c → a ≤ c

-- the queue at this place has the eligible message that came first
pub record IsEarliest (qs : List BlockQueue) (at : ℕ) : Type 0 where
  pub within : at < length qs
  pub queue : BlockQueue
  pub found : slice_get qs at ≡ Some queue
  pub arrival : ℕ
  pub first : first_of queue ≡ Some arrival
  pub others : Each (StartsFrom arrival) qs

-- ---- the list

-- a message as the model has it
abbrev pub waiting : ℕ → Held → Waiting
waiting below h = record { message = h.message; eligible = nat_lt h.arrival below }

-- what of a queue has this arrival number
abbrev pub came_at : ℕ → BlockQueue → List Waiting
came_at a q = map (waiting q.below) (filter (λ h. nat_eq h.arrival a) q.held)

-- what of all queues has this arrival number
abbrev pub all_at : List BlockQueue → ℕ → List Waiting
all_at qs a = flat_map (came_at a) qs

-- f 0 ++ .. ++ f (n - 1)
abbrev pub joined_below : ℕ → (ℕ → List Waiting) → List Waiting
joined_below zero f = []
joined_below (suc n) f = joined_below n f ++ f n

-- the messages that arrived before the n-th, by arrival
abbrev pub by_arrival : ℕ → List BlockQueue → List Waiting
by_arrival n qs = joined_below n (all_at qs)

-- ---- what is kept of the queues

abbrev pub IsOfBlock : ℕ → Held → Type 0
IsOfBlock b h = h.message.block ≡ b

-- the queues are of the blocks from b on
abbrev pub AreOfBlocks : ℕ → List BlockQueue → Type 0
AreOfBlocks b [] = Unit {0}
AreOfBlocks b (q ∷ qs) = Each (IsOfBlock b) q.held × AreOfBlocks (suc b) qs

abbrev pub ComesAfter : Held → Held → Type 0
ComesAfter h k = h.arrival < k.arrival

-- arrival numbers rise
abbrev pub AreRising : List Held → Type 0
AreRising [] = Unit {0}
AreRising (h ∷ hs) = Each (ComesAfter h) hs × AreRising hs

abbrev pub ComesBefore : ℕ → Held → Type 0
ComesBefore n h = h.arrival < n

-- no arrival number of the queue reaches n
pub record IsPast (n : ℕ) (q : BlockQueue) : Type 0 where
  pub held : Each (ComesBefore n) q.held
  pub below : q.below ≤ n
  pub rising : AreRising q.held

-- the queues of the blocks, where n messages have arrived
pub record AreSound (n : ℕ) (qs : List BlockQueue) : Type 0 where
  pub blocks : AreOfBlocks 0 qs
  pub past : Each (IsPast n) qs
  pub once : (a : ℕ) → length (all_at qs a) ≤ 1

-- each queue has room for one message, except for that of one block
abbrev pub HaveRoom : Option ℕ → List BlockQueue → Type 0
HaveRoom tight qs = (b : ℕ) (q : BlockQueue) → slice_get qs b ≡ Some q → (tight ≡ Some b → ⊥) → length q.held < q.room
