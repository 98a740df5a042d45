-- The wires of one sender are closed after those of another.
use Rattle.std.proofs.Common.{◌≡◌, ◌<◌, ◌≤◌, ℕ, zero, suc, ◌+◌, ◌*◌, List, [], ◌∷◌, ◌++◌, Option, Some, length, map, drop}
use Rattle.std.proofs.Common.{get_or, slice_get, refl, ap, sym, ◌∙◌, subst, arith, length-append, length-drop}
use Rattle.std.specs.Prelude.{All}
use Rattle.std.specs.Option.{option_and_then, option_to_list}
use Rattle.std.specs.Global.{Global}
use Rattle.std.proofs.Math.Nat.{suc-mul, mul_comm}
use Rattle.std.proofs.Math.ListN.{get_or-append}
use Rattle.std.proofs.lemmas.List.{length-map, get_or-append-add}
use Rattle.std.proofs.lemmas.Option.{slice_get-get_or, slice_get_within, get_or_from_slice_get}
use Rattle.crossbeam_queue.specs.SegTies.{SegId}
use Rattle.tw_base.specs.declared.message.Chan.{Chan}
use Rattle.tw_base.specs.declared.message.Chan.TheVariants.{Zero, One}
use Rattle.tw_base.specs.declared.message.Message.{Message}
use Rattle.tw_wire.specs.Places.{code, place, item_at, Names, name_at}
use Rattle.tw_wire.specs.Sides.{Sending, Receiving}
use Rattle.tw_wire.specs.Wires.{EndsShown, AreNames, AreAllEnds, sent_of, taken_of, left_at, AreClosed}
use Rattle.tw_wire.specs.Joined.{joined, two_each, AreEnds, AreJoined}
use Rattle.tw_wire.proofs.Places.{place-suc, map-is, map-get}

pub map-none : {A : Type 0} {B : Type 0} (f : A → B) (xs : List A) → map f xs ≡ [] → xs ≡ []
map-none f [] h = refl
map-none f (x ∷ xs) h = absurd cc

pub joined-nil : (ts : List (List Message)) → joined ts [] ≡ []
joined-nil [] = refl
joined-nil (t ∷ ts) = refl

pub all-map : {A : Type 0} {B : Type 0} (f : A → List B) (xs : List A) → All (λ c. 2 ≤ length c) (map f xs)
    → All (λ x. 2 ≤ length (f x)) xs
all-map f [] h k d lt = absurd (omega arith)
all-map f (x ∷ xs) h zero d lt = h 0 (f d) (omega arith)
all-map f (x ∷ xs) h (suc k) d lt = all-map f xs (λ j e l. h (suc j) e (omega arith)) k d (omega arith)

-- what is taken first, and the rest
pub next-is : {A : Type 0} (xs ys : List A) (r : Option A) (x : A) → xs ≡ option_to_list r ++ ys → r ≡ Some x → xs ≡ x ∷ ys
next-is xs ys r x h e = h ∙ ap (λ o. option_to_list o ++ ys) e

-- each column has two ends more
abbrev HaveTwo : {A : Type 0} → List (List A) → Type 0
HaveTwo {A} columns = (t : ℕ) (column : List A) → slice_get columns t ≡ Some column → 2 ≤ length column

place-zero : (c : Chan) → place 0 c ≡ code c
place-zero Zero = refl
place-zero One = refl

length-two : {A : Type 0} (columns : List (List A)) → HaveTwo columns → length (two_each columns) ≡ 2 * length columns
length-two [] h = refl
length-two ([] ∷ columns) h = absurd (let two : 2 ≤ 0 = h 0 [] refl in omega arith)
length-two ((x ∷ []) ∷ columns) h = absurd (let two : 2 ≤ 1 = h 0 (x ∷ []) refl in omega arith)
length-two ((x ∷ y ∷ column) ∷ columns) h =
    let later = length-two columns (λ t d at. h (suc t) d at) in
    omega arith

-- where the two of a column stand
two-get : {A : Type 0} (columns : List (List A)) → HaveTwo columns → (t : ℕ) (c : Chan)
    → slice_get (two_each columns) (place t c) ≡ item_at columns t 0 c
two-get [] h t c = refl
two-get ([] ∷ columns) h t c = absurd (let two : 2 ≤ 0 = h 0 [] refl in omega arith)
two-get ((x ∷ []) ∷ columns) h t c = absurd (let two : 2 ≤ 1 = h 0 (x ∷ []) refl in omega arith)
two-get ((x ∷ y ∷ column) ∷ columns) h zero Zero = refl
two-get ((x ∷ y ∷ column) ∷ columns) h zero One = refl
two-get ((x ∷ y ∷ column) ∷ columns) h (suc t) c =
    ap (λ n. slice_get (x ∷ y ∷ two_each columns) n) (place-suc t c) ∙ two-get columns (λ u d at. h (suc u) d at) t c

item-some : {A : Type 0} (rows : List (List A)) (k j : ℕ) (c : Chan) (x : A) → item_at rows k j c ≡ Some x → (row : List A)
    × (slice_get rows k ≡ Some row) × (slice_get row (place j c) ≡ Some x)
item-some [] k j c x h = absurd cc
item-some (row ∷ rows) zero j c x h = (row, refl, h)
item-some (row ∷ rows) (suc k) j c x h = item-some rows k j c x h

get-past : {A : Type 0} (column : List A) (j : ℕ) → slice_get (drop 2 column) j ≡ slice_get column (suc (suc j))
get-past [] j = refl
get-past (x ∷ []) j = refl
get-past (x ∷ y ∷ column) j = refl

get-later : {A : Type 0} (column : List A) (f : ℕ) (c : Chan)
    → slice_get (drop 2 column) (place f c) ≡ slice_get column (place (suc f) c)
get-later column f c = get-past column (place f c) ∙ ap (λ n. slice_get column n) (sym (place-suc f c))

item-later : {A : Type 0} (columns : List (List A)) (t f : ℕ) (c : Chan)
    → item_at (map (λ d. drop 2 d) columns) t f c ≡ item_at columns t (suc f) c
item-later [] t f c = refl
item-later (d ∷ columns) zero f c = get-later d f c
item-later (d ∷ columns) (suc t) f c = item-later columns t f c

all-two : {A : Type 0} (columns : List (List A)) → HaveTwo columns → All (λ c. 2 ≤ length c) columns
all-two columns h k d lt = h k (get_or columns k d) (slice_get-get_or columns k d lt)

-- the ends of the first row, and those of the others
pub ends-first : (names : Names) (row : List (SegId Global)) (others : Names) (sends : List (List Sending))
    (out : List Sending) (later : List (List Sending)) (columns : List (List Receiving))
    → names ≡ row ∷ others → sends ≡ out ∷ later → AreEnds names sends columns
    → (map (λ (s : Sending). s.wire) out ≡ row) × (map (λ (r : Receiving). r.wire) (two_each columns) ≡ row)
    × All (λ c. 2 ≤ length c) columns × AreEnds others later (map (λ c. drop 2 c) columns)
    × HaveTwo columns × (length row ≡ 2 * length columns)
ends-first names row others sends out later columns n s ends =
    first (subst (λ (y : Names × List (List Sending)). AreEnds y.0 y.1 columns) (λ i. (n i, s i)) ends)
  where
    first : AreEnds (row ∷ others) (out ∷ later) columns → (map (λ (s : Sending). s.wire) out ≡ row)
        × (map (λ (r : Receiving). r.wire) (two_each columns) ≡ row) × All (λ c. 2 ≤ length c) columns
        × AreEnds others later (map (λ c. drop 2 c) columns) × HaveTwo columns × (length row ≡ 2 * length columns)
    first h =
        let two : HaveTwo columns = λ t d at. let l = (h.ins t d at).0 in omega arith in
        let len : length row ≡ 2 * length columns = h.each 0 row refl in (
          h.outs 0 row out refl refl,
          map-is (λ (r : Receiving). r.wire) (two_each columns) row (length-two columns two ∙ sym len) (λ t c r at.
              let d = item-some columns t 0 c r (sym (two-get columns two t c) ∙ at) in
              (h.ins t d.0 d.1).1 0 c r d.2),
          all-two columns two,
          record {
            each = λ f r at. h.each (suc f) r at ∙ ap (λ k. 2 * k) (sym (length-map columns (λ c. drop 2 c)));
            out_rows = let l = h.out_rows in omega arith;
            outs = λ f r o at to. h.outs (suc f) r o at to;
            ins = λ t d at.
                let o = map-get (λ (c : List Receiving). drop 2 c) columns t d at in
                let i = h.ins t o.0 o.1 in
                subst (λ (e : List Receiving). (length e ≡ 2 * length others)
                × ((f : ℕ) (c : Chan) (r : Receiving) → slice_get e (place f c) ≡ Some r
                → name_at others f t c ≡ Some r.wire)) o.2 (
                  (let l = i.0 in omega (arith, length-drop 2 o.0)),
                  λ f c r is. i.1 (suc f) c r (sym (get-later o.0 f c) ∙ is),
                );
          },
          two,
          len,
        )

get-joined : (ts ls : List (List Message)) (j : ℕ) → length ts ≡ length ls
    → get_or (joined ts ls) j [] ≡ get_or ts j [] ++ get_or ls j []
get-joined [] [] j h = refl
get-joined [] (l ∷ ls) j h = absurd (omega arith)
get-joined (t ∷ ts) [] j h = absurd (omega arith)
get-joined (t ∷ ts) (l ∷ ls) zero h = refl
get-joined (t ∷ ts) (l ∷ ls) (suc j) h = get-joined ts ls j (omega arith)

get-sent : (out : List Sending) (j : ℕ) → sent_of (slice_get out j) ≡ get_or (map (λ (s : Sending). s.sent) out) j []
get-sent [] j = refl
get-sent (s ∷ out) zero = refl
get-sent (s ∷ out) (suc j) = get-sent out j

get-taken : (back : List Receiving) (j : ℕ) → taken_of (slice_get back j) ≡ get_or (map (λ (r : Receiving). r.taken) back) j []
get-taken [] j = refl
get-taken (r ∷ back) zero = refl
get-taken (r ∷ back) (suc j) = get-taken back j

place-within : (t n : ℕ) (c : Chan) → t < n → place t c < 2 * n
place-within t n Zero h = omega arith
place-within t n One h = omega arith

pub joined-none : (n : ℕ) (sends : List (List Sending)) (columns : List (List Receiving)) → AreJoined 0 n sends columns []
joined-none n sends columns = (omega arith, λ f t c lt. absurd (omega arith))

-- what is left of the first row, and then of the others
pub joined-first : (m n : ℕ) (sends : List (List Sending)) (out : List Sending) (later : List (List Sending))
    (columns rest : List (List Receiving)) (back : List Receiving) (l more : List (List Message))
    → sends ≡ out ∷ later → back ≡ two_each columns → rest ≡ map (λ c. drop 2 c) columns → HaveTwo columns → length columns ≡ n
    → length l ≡ 2 * n
    → map (λ (s : Sending). s.sent) out ≡ joined (map (λ (r : Receiving). r.taken) back) l → AreJoined m n later rest more
    → AreJoined (suc m) n sends columns (l ++ more)
joined-first m n sends out later columns rest back l more s b r two count len head tail =
    subst (λ (y : List (List Sending)). AreJoined (suc m) n y columns (l ++ more)) (sym s) (
      omega (arith, length-append l more, tail.0, suc-mul m (2 * n)),
      λ f t c lf lt. at f t c lf lt,
    )
  where
    ends : length (map (λ (x : Receiving). x.taken) back) ≡ length l
    ends = length-map back (λ (x : Receiving). x.taken) ∙ ap length b ∙ length-two columns two ∙ ap (λ k. 2 * k) count ∙ sym len

    at : (f t : ℕ) (c : Chan) → f < suc m → t < n
        → sent_of (item_at (out ∷ later) f t c) ≡ taken_of (item_at columns t f c) ++ left_at n (l ++ more) f t c
    at zero t c lf lt =
        let j = place t c in
        let within : j < length l = subst (λ k. j < k) (sym len) (place-within t n c lt) in
        let left : get_or l j [] ≡ left_at n (l ++ more) 0 t c = sym (get_or-append l more [] j within)
        ∙ ap (λ k. get_or (l ++ more) k []) (let e : j ≡ 0 * (2 * n) + j = omega arith in e) in
        let taken : taken_of (slice_get back j) ≡ taken_of (item_at columns t 0 c) = ap
        (λ (x : List Receiving). taken_of (slice_get x j)) b ∙ ap taken_of (two-get columns two t c) in
        get-sent out j ∙ ap (λ (x : List (List Message)). get_or x j []) head
        ∙ get-joined (map (λ (x : Receiving). x.taken) back) l j ends
        ∙ ap (λ (x : List Message). x ++ get_or l j []) (sym (get-taken back j) ∙ taken)
        ∙ ap (λ (x : List Message). taken_of (item_at columns t 0 c) ++ x) left
    at (suc f) t c lf lt =
        let j = place t c in
        let index : suc f * (2 * n) + j ≡ length l + (f * (2 * n) + j) = omega (arith, suc-mul f (2 * n), len) in
        let left : left_at n more f t c ≡ left_at n (l ++ more) (suc f) t c = sym
        (get_or-append-add l more (f * (2 * n) + j) []) ∙ ap (λ k. get_or (l ++ more) k []) (sym index) in
        let taken : item_at rest t f c ≡ item_at columns t (suc f) c = ap (λ (x : List (List Receiving)). item_at x t f c) r
        ∙ item-later columns t f c in
        tail.1 f t c (omega arith) lt ∙ ap (λ (x : Option Receiving). taken_of x ++ left_at n more f t c) taken
        ∙ ap (λ (x : List Message). taken_of (item_at columns t (suc f) c) ++ x) left

all-get : {A : Type 0} (P : A → Type 0) (xs : List A) (k : ℕ) (x : A) → All P xs → slice_get xs k ≡ Some x → P x
all-get P xs k x h at = subst P (get_or_from_slice_get xs k x x at) (h k x (slice_get_within xs k x at))

-- the ends of all nodes are those of all wires
pub ends-all : (n : ℕ) (names : Names) (ends : List EndsShown) → AreNames n names → AreAllEnds n names ends
    → AreEnds names (map (λ (e : EndsShown). e.sends) ends) (map (λ (e : EndsShown). e.recvs) ends)
ends-all n names ends wires all = record {
  each = λ f row at.
      all-get (λ (r : List (SegId Global)). length r ≡ 2 * n) names f row wires.each at
      ∙ ap (λ k. 2 * k) (sym (length-map ends (λ (e : EndsShown). e.recvs) ∙ all.0));
  out_rows = length-map ends (λ (e : EndsShown). e.sends) ∙ all.0 ∙ sym wires.rows;
  outs = λ f row out at to.
      let e = map-get (λ (x : EndsShown). x.sends) ends f out to in
      let o = (all.1 f e.0 e.1).outs in
      let len = all-get (λ (r : List (SegId Global)). length r ≡ 2 * n) names f row wires.each at in
      map-is (λ (s : Sending). s.wire) out row (sym (ap length e.2) ∙ o.0 ∙ sym len) (λ t c s is.
      sym (ap (λ (x : Option (List (SegId Global))). option_and_then (λ (r : List (SegId Global)). slice_get r (place t c)) x) at)
      ∙ (o.1 t c s (ap (λ (l : List Sending). slice_get l (place t c)) e.2 ∙ is)).1);
  ins = λ t column at.
      let e = map-get (λ (x : EndsShown). x.recvs) ends t column at in
      let i = (all.1 t e.0 e.1).ins in (
        sym (ap length e.2) ∙ i.0 ∙ ap (λ k. 2 * k) (sym wires.rows),
        λ f c r is. (i.1 f c r (ap (λ (l : List Receiving). slice_get l (place f c)) e.2 ∙ is)).1,
      );
}

item-map : {E : Type 0} {A : Type 0} (g : E → List A) (ends : List E) (f t : ℕ) (c : Chan)
    → item_at (map g ends) f t c ≡ option_and_then (λ e. slice_get (g e) (place t c)) (slice_get ends f)
item-map g [] f t c = refl
item-map g (e ∷ ends) zero t c = refl
item-map g (e ∷ ends) (suc f) t c = item-map g ends f t c

-- all wires are closed
pub closed : (n : ℕ) (ends : List EndsShown) (left : List (List Message))
    → AreJoined n n (map (λ (e : EndsShown). e.sends) ends) (map (λ (e : EndsShown). e.recvs) ends) left → AreClosed n ends left
closed n ends left h = (
  h.0 ∙ mul_comm n (2 * n),
  λ f t c lf lt.
      sym (ap sent_of (item-map (λ (e : EndsShown). e.sends) ends f t c)) ∙ h.1 f t c lf lt
      ∙ ap (λ (x : Option Receiving). taken_of x ++ left_at n left f t c) (item-map (λ (e : EndsShown). e.recvs) ends t f c),
)
