-- A pair of wires, a row and two ends of a column more.
use Rattle.std.proofs.Common.{◌≡◌, ℕ, zero, suc, ◌+◌, ◌*◌, List, [], ◌∷◌, ◌++◌, Option, Some, length, take, drop, slice_get}
use Rattle.std.proofs.Common.{refl, ap, sym, ◌∙◌, subst, inl, inr, ◌⊎◌, arith, length-append, append_assoc, add-one}
use Rattle.std.specs.Option.{option_and_then}
use Rattle.std.specs.Global.{Global}
use Rattle.std.proofs.lemmas.Option.{slice_get_within}
use Rattle.crossbeam_queue.specs.SegTies.{SegId}
use Rattle.tw_base.specs.declared.message.Chan.{Chan}
use Rattle.tw_base.specs.declared.message.Chan.TheVariants.{Zero, One}
use Rattle.tw_wire.specs.declared.route.Route.{Route}
use Rattle.tw_wire.specs.declared.row.Row.{Row}
use Rattle.tw_wire.specs.Places.{place, route, item_at, Names, name_at}
use Rattle.tw_wire.specs.Sides.{Sending, Receiving, new_sending, new_receiving}
use Rattle.tw_wire.specs.Made.{with_pair, IsRow, dealt, AreRows}
use Rattle.tw_wire.proofs.Places.{picked, pair-get, two-at, length-dealt, dealt-get}

get-front : {A : Type 0} (xs ys : List A) (k : ℕ) (x : A) → slice_get xs k ≡ Some x → slice_get (xs ++ ys) k ≡ Some x
get-front [] ys k x h = absurd cc
get-front (y ∷ xs) ys zero x h = h
get-front (y ∷ xs) ys (suc k) x h = get-front xs ys k x h

get-end : {A : Type 0} (xs : List A) (y : A) (ys : List A) (k : ℕ) → length xs ≡ k → slice_get (xs ++ y ∷ ys) k ≡ Some y
get-end [] y ys zero h = refl
get-end [] y ys (suc k) h = absurd (omega arith)
get-end (x ∷ xs) y ys zero h = absurd (omega arith)
get-end (x ∷ xs) y ys (suc k) h = get-end xs y ys k (omega arith)

get-snoc : {A : Type 0} (xs : List A) (y : A) (k : ℕ) (o : A) → slice_get (xs ++ y ∷ []) k ≡ Some o
    → (slice_get xs k ≡ Some o) ⊎ ((k ≡ length xs) × (y ≡ o))
get-snoc [] y zero o h = inr (refl, cc)
get-snoc [] y (suc k) o h = absurd cc
get-snoc (x ∷ xs) y zero o h = inl h
get-snoc (x ∷ xs) y (suc k) o h =
    elim (get-snoc xs y k o h) [ inl a ↦ inl a | inr b ↦ inr (ap suc b.0, b.1) ]

length-pair : {A : Type 0} (xs : List A) (a b : A) (k : ℕ) → length xs ≡ 2 * k → length (xs ++ a ∷ b ∷ []) ≡ 2 * suc k
length-pair xs a b k h = omega (arith, length-append xs (a ∷ b ∷ []))

-- the places of two items more
pair-end : {A : Type 0} (xs : List A) (a b : A) (k : ℕ) → length xs ≡ 2 * k → (c : Chan)
    → slice_get (xs ++ a ∷ b ∷ []) (place k c) ≡ Some (picked c a b)
pair-end xs a b k len Zero = get-end xs a (b ∷ []) (place k Zero) (omega arith)
pair-end {A} xs a b k len One =
    ap (λ (l : List A). slice_get l (place k One)) (sym (append_assoc xs (a ∷ []) (b ∷ [])))
    ∙ get-end (xs ++ a ∷ []) b [] (place k One) (omega (arith, length-append xs (a ∷ [])))

-- the ends of the wires of a row, each made from its route and its name
abbrev AreMade : {E : Type 0} → (E → SegId Global) → (Route → SegId Global → E) → ℕ → ℕ → List (SegId Global) → List E → Type 0
AreMade {E} wire make f k wires es =
    (length es ≡ 2 * k) × ((t : ℕ) (c : Chan) (e : E) → slice_get es (place t c) ≡ Some e
    → (slice_get wires (place t c) ≡ Some (wire e)) × (e ≡ make (route f t c) (wire e)))

made-end : {E : Type 0} (wire : E → SegId Global) (make : Route → SegId Global → E)
    → ((r : Route) (w : SegId Global) → wire (make r w) ≡ w)
    → (f k : ℕ) (c : Chan) (v w : SegId Global) (e : E) → picked c (make (route f k Zero) v) (make (route f k One) w) ≡ e
    → (picked c v w ≡ wire e) × (e ≡ make (route f k c) (wire e))
made-end {E} wire make named f k Zero v w e is =
    let n : v ≡ wire e = sym (named (route f k Zero) v) ∙ ap wire is in
    (n, sym is ∙ ap (λ (u : SegId Global). make (route f k Zero) u) n)
made-end {E} wire make named f k One v w e is =
    let n : w ≡ wire e = sym (named (route f k One) w) ∙ ap wire is in
    (n, sym is ∙ ap (λ (u : SegId Global). make (route f k One) u) n)

made-more : {E : Type 0} (wire : E → SegId Global) (make : Route → SegId Global → E)
    → ((r : Route) (w : SegId Global) → wire (make r w) ≡ w)
    → (f k : ℕ) (wires : List (SegId Global)) (es : List E) (v w : SegId Global) → length wires ≡ 2 * k
    → AreMade wire make f k wires es
    → AreMade wire make f (suc k) (wires ++ v ∷ w ∷ []) (es ++ make (route f k Zero) v ∷ make (route f k One) w ∷ [])
made-more {E} wire make named f k wires es v w len made = (
  length-pair es (make (route f k Zero) v) (make (route f k One) w) k made.0,
  λ t c e at. elim (pair-get es (make (route f k Zero) v) (make (route f k One) w) k made.0 t c e at) [
    | inl old ↦
        let m = made.1 t c e old in
        (get-front wires (v ∷ w ∷ []) (place t c) (wire e) m.0, m.1)
    | inr new ↦
        let m = made-end wire make named f k c v w e new.1 in
        subst (λ (u : ℕ). (slice_get (wires ++ v ∷ w ∷ []) (place u c) ≡ Some (wire e))
        × (e ≡ make (route f u c) (wire e))) (sym new.0)
        (pair-end wires v w k len c ∙ ap (λ (u : SegId Global). Some u) m.0, m.1)
  ],
)

-- a row with the wires to one receiver more
pub row-more : (f k : ℕ) (v w : SegId Global) (row row' : Row) → row' ≡ with_pair f k v w row → IsRow f k row
    → IsRow f (suc k) row'
row-more f k v w row row' is h =
    let a = new_sending (route f k Zero) v in
    let b = new_sending (route f k One) w in
    let p = new_receiving (route f k Zero) v in
    let q = new_receiving (route f k One) w in
    let two : Row = record {
      wires = row.wires ++ v ∷ w ∷ [];
      sends = row.sends ++ a ∷ b ∷ [];
      recvs = row.recvs ++ p ∷ q ∷ [];
    } in
    let e : with_pair f k v w row ≡ two = λ i. record {
      wires = append_assoc row.wires (v ∷ []) (w ∷ []) i;
      sends = append_assoc row.sends (a ∷ []) (b ∷ []) i;
      recvs = append_assoc row.recvs (p ∷ []) (q ∷ []) i;
    } in
    subst (λ (r : Row). IsRow f (suc k) r) (sym (is ∙ e)) (record {
      count = length-pair row.wires v w k h.count;
      outs = made-more (λ (s : Sending). s.wire) new_sending (λ r u. refl) f k row.wires row.sends v w h.count h.outs;
      ins = made-more (λ (r : Receiving). r.wire) new_receiving (λ r u. refl) f k row.wires row.recvs v w h.count h.ins;
    })

length-snoc : {A : Type 0} (xs : List A) (y : A) (k : ℕ) → length xs ≡ k → length (xs ++ y ∷ []) ≡ suc k
length-snoc xs y k h = omega (arith, length-append xs (y ∷ []))

-- rows that are there keep their items where a row is added
item-front : {A : Type 0} (rows : List (List A)) (row : List A) (f t : ℕ) (c : Chan) (x : A) → item_at rows f t c ≡ Some x
    → item_at (rows ++ row ∷ []) f t c ≡ Some x
item-front [] row f t c x h = absurd cc
item-front (r ∷ rows) row zero t c x h = h
item-front (r ∷ rows) row (suc f) t c x h = item-front rows row f t c x h

item-end : {A : Type 0} (rows : List (List A)) (row : List A) (f t : ℕ) (c : Chan) → length rows ≡ f
    → item_at (rows ++ row ∷ []) f t c ≡ slice_get row (place t c)
item-end {A} rows row f t c h = ap (λ (o : Option (List A)). option_and_then (λ (r : List A). slice_get r (place t c)) o)
    (get-end rows row [] f h)

-- what is picked of the two ends of a receiver
picked-at : {A : Type 0} (rs : List A) (t : ℕ) (a b : A) → slice_get rs (place t Zero) ≡ Some a
    → slice_get rs (place t One) ≡ Some b → (c : Chan) → slice_get rs (place t c) ≡ Some (picked c a b)
picked-at rs t a b h g Zero = h
picked-at rs t a b h g One = g

-- the rows and columns with one sender more
pub rows-more : (n k : ℕ) (names : Names) (sends : List (List Sending)) (recvs : List (List Receiving)) (row : Row)
    → AreRows n k names sends recvs → IsRow k n row
    → AreRows n (suc k) (names ++ row.wires ∷ []) (sends ++ row.sends ∷ []) (dealt n recvs row.recvs)
rows-more n k names sends recvs row h new = record {
  rows = length-snoc names row.wires k h.rows;
  each = λ f r at. elim (get-snoc names row.wires f r at) [
    | inl old ↦ h.each f r old
    | inr last ↦ sym (ap length last.1) ∙ new.count
  ];
  out_rows = length-snoc sends row.sends k h.out_rows;
  columns = length-dealt n recvs row.recvs ∙ h.columns;
  outs = λ f out at. elim (get-snoc sends row.sends f out at) [
    | inl old ↦ (
      (h.outs f out old).0,
      λ t c s is. let o = (h.outs f out old).1 t c s is in
          (item-front names row.wires f t c s.wire o.0, o.1),
    )
    | inr last ↦ last-row f out (last.0 ∙ h.out_rows) last.1
  ];
  ins = λ t d at. column t d (dealt-get n recvs row.recvs h.columns t d at);
}
  where
    named : (f t : ℕ) (c : Chan) (w : SegId Global) → f ≡ k → slice_get row.wires (place t c) ≡ Some w
        → name_at (names ++ row.wires ∷ []) f t c ≡ Some w
    named f t c w is at = item-end names row.wires f t c (h.rows ∙ sym is) ∙ at

    last-row : (f : ℕ) (out : List Sending) → f ≡ k → row.sends ≡ out → (length out ≡ 2 * n)
        × ((t : ℕ) (c : Chan) (s : Sending) → slice_get out (place t c) ≡ Some s
        → (name_at (names ++ row.wires ∷ []) f t c ≡ Some s.wire) × (s ≡ new_sending (route f t c) s.wire))
    last-row f out is same = (
      sym (ap length same) ∙ new.outs.0,
      λ t c s at.
          let o = new.outs.1 t c s (ap (λ (l : List Sending). slice_get l (place t c)) same ∙ at) in
          (named f t c s.wire is o.0, o.1 ∙ ap (λ u. new_sending (route u t c) s.wire) (sym is)),
    )

    column : (t : ℕ) (d : List Receiving) → (c : List Receiving) × (slice_get recvs t ≡ Some c)
        × (d ≡ c ++ take 2 (drop (2 * t) row.recvs)) → (length d ≡ 2 * suc k)
        × ((f : ℕ) (c : Chan) (r : Receiving) → slice_get d (place f c) ≡ Some r
        → (name_at (names ++ row.wires ∷ []) f t c ≡ Some r.wire) × (r ≡ new_receiving (route f t c) r.wire))
    column t d was =
        let old = h.ins t was.0 was.1 in
        let within = slice_get_within recvs t was.0 was.1 in
        let two = two-at row.recvs t (omega (arith, new.ins.0, h.columns)) in
        let is : d ≡ was.0 ++ two.0 ∷ two.1 ∷ [] = was.2 ∙ ap (λ (l : List Receiving). was.0 ++ l) two.2 in (
          ap length is ∙ length-pair was.0 two.0 two.1 k old.0,
          λ f c r at. elim (pair-get was.0 two.0 two.1 k old.0 f c r
              (sym (ap (λ (l : List Receiving). slice_get l (place f c)) is) ∙ at)) [
                | inl before ↦ let o = old.1 f c r before in (item-front names row.wires f t c r.wire o.0, o.1)
                | inr last ↦
                    let o = new.ins.1 t c r (picked-at row.recvs t two.0 two.1 two.3 two.4 c
                    ∙ ap (λ (x : Receiving). Some x) last.1) in
                    (named f t c r.wire last.0 o.0, o.1 ∙ ap (λ u. new_receiving (route u t c) r.wire) (sym last.0))
              ],
        )

pub sender-more : (n k : ℕ) (names : Names) (sends : List (List Sending)) (recvs : List (List Receiving)) (row : Row)
    (names' : Names) (sends' : List (List Sending)) (recvs' : List (List Receiving))
    → AreRows n k names sends recvs → IsRow k n row → names' ≡ names ++ row.wires ∷ [] → sends' ≡ sends ++ row.sends ∷ []
    → recvs' ≡ dealt (length recvs) recvs row.recvs
    → AreRows n (k + 1) names' sends' recvs'
sender-more n k names sends recvs row names' sends' recvs' h new a b d =
    let d' : recvs' ≡ dealt n recvs row.recvs = d ∙ ap (λ m. dealt m recvs row.recvs) h.columns in
    rw (add-one, a, b, d') (rows-more n k names sends recvs row h new)
