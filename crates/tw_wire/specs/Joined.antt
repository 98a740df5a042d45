-- How the wires are closed: a sender after another, with the next two ends of each receiver.
use Rattle.std.specs.Prelude.{◌≡◌, ◌<◌, ℕ, ◌*◌, ◌++◌, List, [], ◌∷◌, length, map, take, slice_get, Some}
use Rattle.std.specs.List.{flat_map}
use Rattle.std.specs.Global.{Global, Vec}
use Rattle.std.specs.declared.vec.IntoIter.{IntoIter}
use Rattle.std.specs.Vec.Iter.{into_iter_items}
use Rattle.crossbeam_queue.specs.SegTies.{SegId}
use Rattle.tw_base.specs.declared.message.Chan.{Chan}
use Rattle.tw_base.specs.declared.message.Message.{Message}
use Rattle.tw_wire.specs.Places.{place, item_at, Names, name_at}
use Rattle.tw_wire.specs.Sides.{Sending, Receiving}
use Rattle.tw_wire.specs.Wires.{sent_of, taken_of, left_at}

-- what these vectors have
abbrev pub lists : List (Vec Message) → List (List Message)
lists left = map (λ v. v.items) left

-- what these iterators have left
abbrev pub contents : List (IntoIter Receiving Global) → List (List Receiving)
contents columns = map (λ c. into_iter_items c) columns

-- each list followed by its fellow, as far as both go
abbrev pub joined : List (List Message) → List (List Message) → List (List Message)
joined [] ls = []
joined (t ∷ ts) [] = []
joined (t ∷ ts) (l ∷ ls) = (t ++ l) ∷ joined ts ls

-- on each of these wires what was taken and then what is left is what was sent
abbrev pub AreJoinedEnds : List Sending → List Receiving → List (List Message) → Type 0
AreJoinedEnds sends recvs left = map (λ s. s.sent) sends ≡ joined (map (λ r. r.taken) recvs) left

-- two of each list
abbrev pub two_each : {A : Type 0} → List (List A) → List A
two_each columns = flat_map (λ xs. take 2 xs) columns

-- the ends of these rows of wires: the sending ones in rows, the receiving ones in columns
pub record AreEnds (names : Names) (sends : List (List Sending)) (columns : List (List Receiving)) : Type 0 where
  pub each : (f : ℕ) (row : List (SegId Global)) → slice_get names f ≡ Some row → length row ≡ 2 * length columns
  pub out_rows : length sends ≡ length names
  pub outs : (f : ℕ) (row : List (SegId Global)) (out : List Sending)
      → slice_get names f ≡ Some row → slice_get sends f ≡ Some out → map (λ s. s.wire) out ≡ row
  pub ins : (t : ℕ) (column : List Receiving) → slice_get columns t ≡ Some column → (length column ≡ 2 * length names)
      × ((f : ℕ) (c : Chan) (r : Receiving) → slice_get column (place f c) ≡ Some r → name_at names f t c ≡ Some r.wire)

-- on each wire of the first m senders what was taken and then what is left is what was sent
abbrev pub AreJoined : ℕ → ℕ → List (List Sending) → List (List Receiving) → List (List Message) → Type 0
AreJoined m n sends columns left =
    (length left ≡ m * (2 * n))
    × ((f t : ℕ) (c : Chan) → f < m → t < n
    → sent_of (item_at sends f t c) ≡ taken_of (item_at columns t f c) ++ left_at n left f t c)

-- to these lists were added those of what is left on the wires of these rows
abbrev pub AddsLeft : Names → List (List Sending) → List (List Receiving) → List (Vec Message) → List (Vec Message) → Type 0
AddsLeft names sends columns old new =
    (more : List (List Message)) × (lists new ≡ lists old ++ more)
    × AreJoined (length names) (length columns) sends columns more
