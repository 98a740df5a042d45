-- Lists of queues of which one changes, and what is joined of them.
use Rattle.std.proofs.Common.{◌≡◌, ◌≢◌, ℕ, zero, suc, ◌+◌, ◌<◌, ◌≤◌, Bool, true, false, ◌||◌, Some, length, length-append, List}
use Rattle.std.proofs.Common.{[], ◌∷◌, ◌++◌, map, set, arith, refl, ap, sym, ◌∙◌, subst, inl, inr, append_assoc, append-nil}
use Rattle.std.specs.Prelude.{slice_get}
use Rattle.std.specs.List.{flat_map, list_any}
use Rattle.std.proofs.lemmas.Bool.{cases_eq}
use Rattle.std.proofs.lemmas.List.{map-append}
use Rattle.std.proofs.lemmas.List.Folds.{list_any-append}
use Rattle.tw_base.specs.Lists.{Each}
use Rattle.dsm_runs.specs.declared.mode.Waiting.{Waiting}
use Rattle.dsm_runs.proofs.Lists.{Each-append}
use Rattle.deferred_queues.specs.Queues.{BlockQueue, joined_below}

-- ---- what is joined of numbers

pub joined-same : (n : ℕ) (f g : ℕ → List Waiting) → ((a : ℕ) → a < n → g a ≡ f a) → joined_below n g ≡ joined_below n f
joined-same zero f g h = refl
joined-same (suc n) f g h =
    ap (λ (xs : List Waiting). xs ++ g n) (joined-same n f g (λ a l. h a (omega arith)))
    ∙ ap (λ (xs : List Waiting). joined_below n f ++ xs) (h n (omega arith))

pub joined-map : (n : ℕ) (v : Waiting → Waiting) (f : ℕ → List Waiting)
    → joined_below n (λ a. map v (f a)) ≡ map v (joined_below n f)
joined-map zero v f = refl
joined-map (suc n) v f =
    ap (λ (xs : List Waiting). xs ++ map v (f n)) (joined-map n v f) ∙ sym (map-append v (joined_below n f) (f n))

pub joined-each : (P : Waiting → Type 0) (n : ℕ) (f : ℕ → List Waiting) → ((a : ℕ) → a < n → Each P (f a))
    → Each P (joined_below n f)
joined-each P zero f h = tt
joined-each P (suc n) f h =
    Each-append P (joined_below n f) (f n) (joined-each P n f (λ a l. h a (omega arith))) (h n (omega arith))

either_true : (a b : Bool) → b ≡ true → (a || b) ≡ true
either_true true b h = refl
either_true false b h = h

pub first_true : (a b : Bool) → a ≡ true → (a || b) ≡ true
first_true true b h = refl
first_true false b h = absurd (cc)

pub any_right : (p : Waiting → Bool) (xs ys : List Waiting) → list_any p ys ≡ true → list_any p (xs ++ ys) ≡ true
any_right p xs ys h = list_any-append p xs ys ∙ either_true (list_any p xs) (list_any p ys) h

pub any_left : (p : Waiting → Bool) (xs ys : List Waiting) → list_any p xs ≡ true → list_any p (xs ++ ys) ≡ true
any_left p xs ys h = list_any-append p xs ys ∙ first_true (list_any p xs) (list_any p ys) h

pub joined-any : (p : Waiting → Bool) (n a : ℕ) (f : ℕ → List Waiting) → a < n → list_any p (f a) ≡ true
    → list_any p (joined_below n f) ≡ true
joined-any p zero a f l h = absurd (omega arith)
joined-any p (suc n) a f l h = elim (cases_eq n a) [
  | inl e ↦ any_right p (joined_below n f) (f n) (ap (λ k. list_any p (f k)) e ∙ h)
  | inr d ↦ any_left p (joined_below n f) (f n) (joined-any p n a f (omega (arith, d)) h)
]

-- f and g differ at a alone, where f gives one message and g none
pub record Cuts (n a : ℕ) (f g : ℕ → List Waiting) (w : Waiting) : Type 0 where
  pub later : List Waiting
  pub before : joined_below n f ≡ joined_below a f ++ w ∷ later
  pub after : joined_below n g ≡ joined_below a f ++ later

cuts_last : (n : ℕ) (f g : ℕ → List Waiting) (w : Waiting) → f n ≡ w ∷ [] → g n ≡ [] → ((c : ℕ) → c ≢ n → g c ≡ f c)
    → Cuts (suc n) n f g w
cuts_last n f g w p q h = record {
  later = [];
  before = ap (λ (xs : List Waiting). joined_below n f ++ xs) p;
  after =
      ap (λ (xs : List Waiting). xs ++ g n) (joined-same n f g (λ c l. h c (λ e. omega (arith, e, l))))
      ∙ ap (λ (xs : List Waiting). joined_below n f ++ xs) q;
}

pub joined-cut : (n a : ℕ) (f g : ℕ → List Waiting) (w : Waiting) → a < n → f a ≡ w ∷ [] → g a ≡ []
    → ((c : ℕ) → c ≢ a → g c ≡ f c) → Cuts n a f g w
joined-cut zero a f g w l p q h = absurd (omega arith)
joined-cut (suc n) a f g w l p q h = elim (cases_eq n a) [
  | inl e ↦ subst (λ k. Cuts (suc n) k f g w) e (cuts_last n f g w (ap f e ∙ p) (ap g e ∙ q) (λ c d. h c (λ r. d (r ∙ sym e))))
  | inr d ↦
      let rest = joined-cut n a f g w (omega (arith, d)) p q h in
      record {
        later = rest.later ++ f n;
        before = ap (λ (xs : List Waiting). xs ++ f n) rest.before ∙ append_assoc (joined_below a f) (w ∷ rest.later) (f n);
        after =
            ap (λ (xs : List Waiting). xs ++ g n) rest.after
            ∙ ap (λ (xs : List Waiting). (joined_below a f ++ rest.later) ++ xs) (h n d)
            ∙ append_assoc (joined_below a f) rest.later (f n);
      }
]

-- ---- one queue changes

head_is : (x q : BlockQueue) → Some x ≡ Some q → x ≡ q
head_is x q h = cc

-- what is joined of the queues, apart from that at a place
pub record Parts (f : BlockQueue → List Waiting) (qs : List BlockQueue) (b : ℕ) (q : BlockQueue) : Type 0 where
  pub front : List Waiting
  pub back : List Waiting
  pub whole : flat_map f qs ≡ front ++ (f q ++ back)
  pub changed : (p : BlockQueue) → flat_map f (set qs b p) ≡ front ++ (f p ++ back)

pub parts : (f : BlockQueue → List Waiting) (qs : List BlockQueue) (b : ℕ) (q : BlockQueue) → slice_get qs b ≡ Some q
    → Parts f qs b q
parts f [] b q h = absurd (cc)
parts f (x ∷ xs) zero q h = record {
  front = [];
  back = flat_map f xs;
  whole = ap (λ (y : BlockQueue). f y ++ flat_map f xs) (head_is x q h);
  changed = λ p. refl;
}
parts f (x ∷ xs) (suc b) q h =
    let rest = parts f xs b q h in
    record {
      front = f x ++ rest.front;
      back = rest.back;
      whole = ap (λ (l : List Waiting). f x ++ l) rest.whole ∙ sym (append_assoc (f x) rest.front (f q ++ rest.back));
      changed = λ p. ap (λ (l : List Waiting). f x ++ l) (rest.changed p)
          ∙ sym (append_assoc (f x) rest.front (f p ++ rest.back));
    }

pub flat-same : (f : BlockQueue → List Waiting) (qs : List BlockQueue) (b : ℕ) (q p : BlockQueue) → slice_get qs b ≡ Some q
    → f p ≡ f q → flat_map f (set qs b p) ≡ flat_map f qs
flat-same f qs b q p h e =
    let all = parts f qs b q h in
    all.changed p ∙ ap (λ (l : List Waiting). all.front ++ (l ++ all.back)) e ∙ sym all.whole

none_left : (xs ys : List Waiting) → length (xs ++ ys) ≤ 0 → (xs ≡ []) × (ys ≡ [])
none_left [] [] h = (refl, refl)
none_left [] (y ∷ ys) h = absurd (omega (arith, h))
none_left (x ∷ xs) ys h = absurd (omega (arith, h))

-- a queue gives one message more, and no queue gives another
pub flat-first : (f : BlockQueue → List Waiting) (qs : List BlockQueue) (b : ℕ) (q p : BlockQueue) (w : Waiting)
    → slice_get qs b ≡ Some q → flat_map f qs ≡ [] → f q ≡ [] → f p ≡ w ∷ [] → flat_map f (set qs b p) ≡ w ∷ []
flat-first f qs b q p w h none here one =
    let all = parts f qs b q h in
    let empty : all.front ++ (f q ++ all.back) ≡ [] = sym all.whole ∙ none in
    let front = none_left all.front (f q ++ all.back) (omega (arith, ap (λ (l : List Waiting). length l) empty)) in
    let back : all.back ≡ [] = ap (λ (l : List Waiting). l ++ all.back) (sym here) ∙ front.1 in
    all.changed p ∙ ap (λ (l : List Waiting). l ++ (f p ++ all.back)) front.0 ∙ ap (λ (l : List Waiting). f p ++ l) back
    ∙ append-nil (f p) ∙ one

-- a queue gives a message less, which was the only one
pub flat-last : (f : BlockQueue → List Waiting) (qs : List BlockQueue) (b : ℕ) (q p : BlockQueue) (w : Waiting)
    → slice_get qs b ≡ Some q → length (flat_map f qs) ≤ 1 → f q ≡ w ∷ f p
    → (flat_map f qs ≡ w ∷ []) × (flat_map f (set qs b p) ≡ [])
flat-last f qs b q p w h once more =
    let all = parts f qs b q h in
    let whole : flat_map f qs ≡ all.front ++ (w ∷ (f p ++ all.back)) = all.whole
    ∙ ap (λ (l : List Waiting). all.front ++ (l ++ all.back)) more in
    let short : length all.front + length (w ∷ (f p ++ all.back)) ≤ 1 =
    omega (arith, once, ap (λ (l : List Waiting). length l) whole, length-append all.front (w ∷ (f p ++ all.back))) in
    let front = none_left all.front [] (omega (arith, short, length-append all.front [])) in
    let rest = none_left (f p) all.back (omega (arith, short)) in
    let empty : f p ++ all.back ≡ [] = ap (λ (l : List Waiting). l ++ all.back) rest.0 ∙ rest.1 in (
      whole ∙ ap (λ (l : List Waiting). l ++ (w ∷ (f p ++ all.back))) front.0 ∙ ap (λ (l : List Waiting). w ∷ l) empty,
      all.changed p ∙ ap (λ (l : List Waiting). l ++ (f p ++ all.back)) front.0 ∙ empty,
    )

pub flat-each : (P : Waiting → Type 0) (f : BlockQueue → List Waiting) (qs : List BlockQueue) → Each (λ q. Each P (f q)) qs
    → Each P (flat_map f qs)
flat-each P f [] h = tt
flat-each P f (q ∷ qs) h = Each-append P (f q) (flat_map f qs) h.0 (flat-each P f qs h.1)

pub flat-any : (p : Waiting → Bool) (f : BlockQueue → List Waiting) (qs : List BlockQueue) (b : ℕ) (q : BlockQueue)
    → slice_get qs b ≡ Some q → list_any p (f q) ≡ true → list_any p (flat_map f qs) ≡ true
flat-any p f qs b q h e =
    let all = parts f qs b q h in
    ap (λ (l : List Waiting). list_any p l) all.whole ∙ any_right p all.front (f q ++ all.back) (any_left p (f q) all.back e)

pub each-set : (P : BlockQueue → Type 0) (qs : List BlockQueue) (b : ℕ) (q : BlockQueue) → P q → Each P qs
    → Each P (set qs b q)
each-set P [] b q p h = tt
each-set P (x ∷ xs) zero q p h = (p, h.1)
each-set P (x ∷ xs) (suc b) q p h = (h.0, each-set P xs b q p h.1)

pub each-at : (P : BlockQueue → Type 0) (qs : List BlockQueue) (b : ℕ) (q : BlockQueue) → Each P qs → slice_get qs b ≡ Some q
    → P q
each-at P [] b q h e = absurd (cc)
each-at P (x ∷ xs) zero q h e = subst P (head_is x q e) h.0
each-at P (x ∷ xs) (suc b) q h e = each-at P xs b q h.1 e
