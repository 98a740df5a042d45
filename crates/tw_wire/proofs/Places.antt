-- Items by twos: what stands for each node and channel.
use Rattle.std.proofs.Common.{◌≡◌, ◌<◌, ◌≤◌, ℕ, zero, suc, ◌+◌, ◌*◌, List, [], ◌∷◌, ◌++◌, Some, None, Result, Ok, Err, length}
use Rattle.std.proofs.Common.{map, take, drop, set, get_or, slice_get, refl, ap, sym, ◌∙◌, subst, inl, inr, ◌⊎◌, arith}
use Rattle.std.specs.Prelude.{All, OnOk}
use Rattle.std.proofs.lemmas.Option.{slice_get-get_or}
use Rattle.std.proofs.Math.Seq.{drop-nil}
use Rattle.tw_base.specs.declared.message.Chan.{Chan}
use Rattle.tw_base.specs.declared.message.Chan.TheVariants.{Zero, One}
use Rattle.tw_wire.specs.Places.{place}
use Rattle.tw_wire.specs.Made.{dealt}

pub place-suc : (t : ℕ) (c : Chan) → place (suc t) c ≡ suc (suc (place t c))
place-suc t Zero = omega arith
place-suc t One = omega arith

abbrev pub picked : {A : Type 0} → Chan → A → A → A
picked Zero a b = a
picked One a b = b

-- the place of two items more
pub pair-get : {A : Type 0} (xs : List A) (a b : A) (k : ℕ) → length xs ≡ 2 * k → (t : ℕ) (c : Chan) (x : A)
    → slice_get (xs ++ a ∷ b ∷ []) (place t c) ≡ Some x
    → (slice_get xs (place t c) ≡ Some x) ⊎ ((t ≡ k) × (picked c a b ≡ x))
pair-get [] a b k len zero Zero x h = inr (omega arith, cc)
pair-get [] a b k len zero One x h = inr (omega arith, cc)
pair-get {A} [] a b k len (suc t) c x h =
    let none : None ≡ Some x = sym (ap (λ n. slice_get (a ∷ b ∷ []) n) (place-suc t c)) ∙ h in
    absurd cc
pair-get (y ∷ []) a b k len t c x h = absurd (omega arith)
pair-get (y ∷ z ∷ ys) a b k len zero Zero x h = inl h
pair-get (y ∷ z ∷ ys) a b k len zero One x h = inl h
pair-get (y ∷ z ∷ ys) a b zero len (suc t) c x h = absurd (omega arith)
pair-get (y ∷ z ∷ ys) a b (suc k) len (suc t) c x h =
    let later : slice_get (ys ++ a ∷ b ∷ []) (place t c) ≡ Some x = sym
    (ap (λ n. slice_get (y ∷ z ∷ (ys ++ a ∷ b ∷ [])) n) (place-suc t c)) ∙ h in
    elim (pair-get ys a b k (omega arith) t c x later) [
      | inl e ↦ inl (ap (λ n. slice_get (y ∷ z ∷ ys) n) (place-suc t c) ∙ e)
      | inr e ↦ inr (ap suc e.0, e.1)
    ]

-- past the first two items
pub drop-two : {A : Type 0} (k : ℕ) (rs : List A) → drop (2 * suc k) rs ≡ drop (2 * k) (drop 2 rs)
drop-two {A} k rs =
    let e : 2 * suc k ≡ suc (suc (2 * k)) = omega arith in
    ap (λ n. drop n rs) e ∙ past rs
  where
    past : (rs : List A) → drop (suc (suc (2 * k))) rs ≡ drop (2 * k) (drop 2 rs)
    past [] = sym (drop-nil (2 * k))
    past (x ∷ []) = sym (drop-nil (2 * k))
    past (x ∷ y ∷ ys) = refl

-- the two items of a node
pub two-at : {A : Type 0} (rs : List A) (t : ℕ) → 2 * t + 2 ≤ length rs → (a : A) × (b : A)
    × (take 2 (drop (2 * t) rs) ≡ a ∷ b ∷ []) × (slice_get rs (place t Zero) ≡ Some a) × (slice_get rs (place t One) ≡ Some b)
two-at [] t h = absurd (omega arith)
two-at (x ∷ []) t h = absurd (omega arith)
two-at (x ∷ y ∷ rs) zero h = (x, y, refl, refl, refl)
two-at {A} (x ∷ y ∷ rs) (suc t) h =
    let r = two-at rs t (omega arith) in (
      r.0,
      r.1,
      ap (λ (l : List A). take 2 l) (drop-two t (x ∷ y ∷ rs)) ∙ r.2,
      ap (λ n. slice_get (x ∷ y ∷ rs) n) (place-suc t Zero) ∙ r.3,
      ap (λ n. slice_get (x ∷ y ∷ rs) n) (place-suc t One) ∙ r.4,
    )

pub length-dealt : {A : Type 0} (k : ℕ) (cs : List (List A)) (rs : List A) → length (dealt k cs rs) ≡ length cs
length-dealt zero cs rs = refl
length-dealt (suc k) [] rs = refl
length-dealt (suc k) (c ∷ cs) rs = ap suc (length-dealt k cs (drop 2 rs))

-- two are dealt to one list more
pub dealt-more : {A : Type 0} (k : ℕ) (cs : List (List A)) (rs x : List A) → k < length cs → x ≡ get_or (dealt k cs rs) k x
    → set (dealt k cs rs) k (x ++ take 2 (drop (2 * k) rs)) ≡ dealt (suc k) cs rs
dealt-more k [] rs x lt is = absurd (omega arith)
dealt-more zero (c ∷ cs) rs x lt is = ap (λ l. (l ++ take 2 rs) ∷ cs) is
dealt-more {A} (suc k) (c ∷ cs) rs x lt is =
    let later = dealt-more k cs (drop 2 rs) x (omega arith) is in
    ap (λ (l : List (List A)). (c ++ take 2 rs) ∷ l) (ap (λ (l : List A). set (dealt k cs (drop 2 rs)) k (x ++ take 2 l))
    (drop-two k rs) ∙ later)

-- what stands in a list to which two were dealt
pub dealt-get : {A : Type 0} (k : ℕ) (cs : List (List A)) (rs : List A) → length cs ≡ k → (t : ℕ) (d : List A)
    → slice_get (dealt k cs rs) t ≡ Some d
    → (c : List A) × (slice_get cs t ≡ Some c) × (d ≡ c ++ take 2 (drop (2 * t) rs))
dealt-get k [] rs len t d h = absurd (none k h)
  where
    none : (k : ℕ) → slice_get (dealt k [] rs) t ≡ Some d → ⊥
    none zero e = cc
    none (suc k) e = cc
dealt-get zero (c ∷ cs) rs len t d h = absurd (omega arith)
dealt-get (suc k) (c ∷ cs) rs len zero d h = (c, refl, cc)
dealt-get {A} (suc k) (c ∷ cs) rs len (suc t) d h =
    let r = dealt-get k cs (drop 2 rs) (omega arith) t d h in
    (r.0, r.1, r.2 ∙ ap (λ (l : List A). r.0 ++ take 2 l) (sym (drop-two t rs)))

-- the same from the other end
pub drop-next : {A : Type 0} (k : ℕ) (rs : List A) → drop (2 * suc k) rs ≡ drop 2 (drop (2 * k) rs)
drop-next zero rs = refl
drop-next {A} (suc k) rs =
    drop-two (suc k) rs ∙ drop-next k (drop 2 rs) ∙ ap (λ (l : List A). drop 2 l) (sym (drop-two k rs))

-- each index is the place of some node and channel
pub at-place : (j : ℕ) → (t : ℕ) × (c : Chan) × (j ≡ place t c)
at-place zero = (0, Zero, refl)
at-place (suc zero) = (0, One, refl)
at-place (suc (suc j)) =
    let r = at-place j in
    (suc r.0, r.1, ap (λ n. suc (suc n)) r.2 ∙ sym (place-suc r.0 r.1))

-- a list is told by what stands at each place
pub map-is : {O : Type 0} {A : Type 0} (f : O → A) (os : List O) (ys : List A) → length os ≡ length ys
    → ((t : ℕ) (c : Chan) (o : O) → slice_get os (place t c) ≡ Some o → slice_get ys (place t c) ≡ Some (f o)) → map f os ≡ ys
map-is {O} {A} f os ys n at = by-index os ys n (λ j o h.
    let p = at-place j in
    subst (λ k. slice_get ys k ≡ Some (f o)) (sym p.2) (at p.0 p.1 o (subst (λ k. slice_get os k ≡ Some o) p.2 h)))
  where
    by-index : (os : List O) (ys : List A) → length os ≡ length ys
        → ((k : ℕ) (o : O) → slice_get os k ≡ Some o → slice_get ys k ≡ Some (f o)) → map f os ≡ ys
    by-index [] [] n h = refl
    by-index [] (y ∷ ys) n h = absurd (omega arith)
    by-index (o ∷ os) [] n h = absurd (omega arith)
    by-index (o ∷ os) (y ∷ ys) n h =
        let first : Some y ≡ Some (f o) = h 0 o refl in
        let rest = by-index os ys (omega arith) (λ k x e. h (suc k) x e) in
        cc (first, rest)

pub map-get : {O : Type 0} {A : Type 0} (f : O → A) (os : List O) (k : ℕ) (a : A) → slice_get (map f os) k ≡ Some a → (o : O)
    × (slice_get os k ≡ Some o) × (f o ≡ a)
map-get f [] k a h = absurd cc
map-get f (x ∷ os) zero a h = (x, refl, cc)
map-get f (x ∷ os) (suc k) a h = map-get f os k a h

pub get-map : {O : Type 0} {A : Type 0} (f : O → A) (os : List O) (k : ℕ) (o : O) → slice_get os k ≡ Some o
    → slice_get (map f os) k ≡ Some (f o)
get-map f [] k o h = absurd cc
get-map f (x ∷ os) zero o h = let same : x ≡ o = cc in ap (λ y. Some (f y)) same
get-map f (x ∷ os) (suc k) o h = get-map f os k o h

-- a fact of each item, from one for each place
pub all-places : {A : Type 0} (P : A → Type 0) (xs : List A)
    → ((t : ℕ) (c : Chan) (x : A) → slice_get xs (place t c) ≡ Some x → P x) → All P xs
all-places P xs at j d lt =
    let p = at-place j in
    at p.0 p.1 (get_or xs j d) (subst (λ k. slice_get xs k ≡ Some (get_or xs j d)) p.2 (slice_get-get_or xs j d lt))

pub on-ok : {T : Type 0} {E : Type 0} {P : Type 0} {Q : Type 0} (r : Result T E) → (P → Q) → OnOk r P → OnOk r Q
on-ok (Ok x) f h = f h
on-ok (Err e) f h = h
