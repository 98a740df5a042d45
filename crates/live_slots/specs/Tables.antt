-- Tables of the slots that are read first from each place, a bit for each slot below 32.
use Rattle.std.specs.Prelude.{ℕ, ◌≡◌, ◌+◌, ◌<◌, ◌==◌, ◌&&◌, ◌||◌, nat_lt, not, Bool, true, false, ◌↔◌, List, slice_index}
use Rattle.tw_base.specs.Bits.{has_bit}
use Rattle.handler_code.specs.declared.code.OpCode.{OpCode}
use Rattle.handler_code.specs.declared.code.OpCode.TheVariants as op
use Rattle.handler_code.specs.Live.{HasOp, ReadsFirst}

-- a slot below 32 that a path from the place reads before it writes it
pub record IsReadFirst (ops : List OpCode) (at k : ℕ) : Type 0 where
  pub small : k < 32
  pub reads : ReadsFirst ops at k

abbrev pub is_set : List ℕ → ℕ → ℕ → Bool
is_set table at k = has_bit (slice_index table at) k

-- the table has for each place the slots below 32 that are read first from there
abbrev pub IsExact : List OpCode → List ℕ → Type 0
IsExact ops table = (at k : ℕ) → (is_set table at k ≡ true) ↔ IsReadFirst ops at k

-- ---- how the table is made

-- whether an op at a place reads the slot first, where the table says it of the places that the op leads to
abbrev pub reads_first : OpCode → ℕ → (ℕ → ℕ → Bool) → ℕ → Bool
reads_first (op.Get j) at t k = (nat_lt j 32 && (j == k)) || t (at + 1) k
reads_first (op.Put j) at t k = not (j == k) && t (at + 1) k
reads_first (op.Jump to) at t k = t to k
reads_first (op.JumpBack to) at t k = t to k
reads_first (op.JumpIfNot to) at t k = t to k || t (at + 1) k
reads_first (op.EachNext j h to) at t k = (nat_lt h 32 && (h == k)) || (t to k || (not (j == k) && t (at + 1) k))
reads_first op.Resume at t k = false
reads_first op.Done at t k = false
reads_first _ at t k = t (at + 1) k

-- these are the slots of an op at a place
abbrev pub IsStep : OpCode → ℕ → List ℕ → ℕ → Type 0
IsStep o at table slots = (k : ℕ) → has_bit slots k ≡ reads_first o at (is_set table) k

-- another sweep would change nothing at this place
abbrev pub IsClosedAt : List OpCode → List ℕ → ℕ → Type 0
IsClosedAt ops table at = (o : OpCode) → HasOp ops at o → IsStep o at table (slice_index table at)

abbrev pub IsClosed : List OpCode → List ℕ → Type 0
IsClosed ops table = (at : ℕ) → IsClosedAt ops table at

-- each slot of the table is read first
abbrev pub IsJustified : List OpCode → List ℕ → Type 0
IsJustified ops table = (at k : ℕ) → is_set table at k ≡ true → IsReadFirst ops at k
