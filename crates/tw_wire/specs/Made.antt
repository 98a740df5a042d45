-- How the wires are made: a row for each sender, whose receiving ends are dealt to the receivers, two to each.
use Rattle.std.specs.Prelude.{◌≡◌, ℕ, zero, suc, ◌*◌, ◌++◌, List, [], ◌∷◌, length, take, drop, slice_get, Some}
use Rattle.std.specs.Global.{Global}
use Rattle.crossbeam_queue.specs.SegTies.{SegId}
use Rattle.tw_base.specs.declared.message.Chan.{Chan}
use Rattle.tw_base.specs.declared.message.Chan.TheVariants.{Zero, One}
use Rattle.tw_wire.specs.declared.route.Route.{Route}
use Rattle.tw_wire.specs.declared.row.Row.{Row}
use Rattle.tw_wire.specs.Places.{place, route, Names, name_at}
use Rattle.tw_wire.specs.Sides.{Sending, Receiving, new_sending, new_receiving}

-- one wire more at the end of a row
abbrev pub with_wire : Route → SegId Global → Row → Row
with_wire r w row = record {
  wires = row.wires ++ w ∷ [];
  sends = row.sends ++ new_sending r w ∷ [];
  recvs = row.recvs ++ new_receiving r w ∷ [];
}

-- both wires to a receiver
abbrev pub with_pair : ℕ → ℕ → SegId Global → SegId Global → Row → Row
with_pair f t v w row = with_wire (route f t One) w (with_wire (route f t Zero) v row)

-- the wires of sender f to the first k receivers, and their ends
pub record IsRow (f k : ℕ) (row : Row) : Type 0 where
  pub count : length row.wires ≡ 2 * k
  pub outs : (length row.sends ≡ 2 * k) × ((t : ℕ) (c : Chan) (s : Sending) → slice_get row.sends (place t c) ≡ Some s
      → (slice_get row.wires (place t c) ≡ Some s.wire) × (s ≡ new_sending (route f t c) s.wire))
  pub ins : (length row.recvs ≡ 2 * k) × ((t : ℕ) (c : Chan) (r : Receiving) → slice_get row.recvs (place t c) ≡ Some r
      → (slice_get row.wires (place t c) ≡ Some r.wire) × (r ≡ new_receiving (route f t c) r.wire))

-- the first k lists have each the next two items at the end
abbrev pub dealt : {A : Type 0} → ℕ → List (List A) → List A → List (List A)
dealt zero columns row = columns
dealt (suc k) [] row = []
dealt (suc k) (column ∷ columns) row = (column ++ take 2 row) ∷ dealt k columns (drop 2 row)

-- the wires of the first k senders to n receivers, with the sending ends in rows and the receiving ends in columns
pub record AreRows (n k : ℕ) (names : Names) (sends : List (List Sending)) (recvs : List (List Receiving)) : Type 0 where
  pub rows : length names ≡ k
  pub each : (f : ℕ) (row : List (SegId Global)) → slice_get names f ≡ Some row → length row ≡ 2 * n
  pub out_rows : length sends ≡ k
  pub columns : length recvs ≡ n
  pub outs : (f : ℕ) (out : List Sending) → slice_get sends f ≡ Some out → (length out ≡ 2 * n)
      × ((t : ℕ) (c : Chan) (s : Sending) → slice_get out (place t c) ≡ Some s
      → (name_at names f t c ≡ Some s.wire) × (s ≡ new_sending (route f t c) s.wire))
  pub ins : (t : ℕ) (column : List Receiving) → slice_get recvs t ≡ Some column → (length column ≡ 2 * k)
      × ((f : ℕ) (c : Chan) (r : Receiving) → slice_get column (place f c) ≡ Some r
      → (name_at names f t c ≡ Some r.wire) × (r ≡ new_receiving (route f t c) r.wire))
