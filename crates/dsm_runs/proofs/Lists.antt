-- Facts of each element, numbers, and tests on wires.
use Rattle.std.proofs.Common.{◌≡◌, ℕ, suc, ◌+◌, Bool, true, false, ◌&&◌, nat_eq, if◌then◌else◌, length, List, [], ◌∷◌, ◌++◌}
use Rattle.std.proofs.Common.{arith, refl, ap, ◌∙◌, eq-eqb}
use Rattle.std.specs.List.{filter}
use Rattle.tw_base.specs.declared.message.Chan.{Chan}
use Rattle.tw_base.specs.declared.message.Chan.TheVariants.{Zero, One}
use Rattle.tw_base.specs.declared.message.Message.{Message}
use Rattle.tw_base.specs.Lists.{Each}
use Rattle.dsm_runs.specs.Messages.{chan_eq, numbered}

pub Each-append : {A : Type 0} (P : A → Type 0) (xs ys : List A) → Each P xs → Each P ys → Each P (xs ++ ys)
Each-append P [] ys h k = k
Each-append P (x ∷ xs) ys h k = (h.0, Each-append P xs ys h.1 k)

pub Each-implied : {A : Type 0} (P Q : A → Type 0) (xs : List A) → ((x : A) → P x → Q x) → Each P xs → Each Q xs
Each-implied P Q [] f h = tt
Each-implied P Q (x ∷ xs) f h = (f x h.0, Each-implied P Q xs f h.1)

pub Each-if : {A : Type 0} (P : A → Type 0) (p : A → Bool) (x : A) (xs : List A) (b : Bool) → P x → Each P (filter p xs) →
    Each P (if b then x ∷ filter p xs else filter p xs)
Each-if P p x xs true h k = (h, k)
Each-if P p x xs false h k = k

pub Each-filter : {A : Type 0} (P : A → Type 0) (p : A → Bool) (xs : List A) → Each P xs → Each P (filter p xs)
Each-filter P p [] h = tt
Each-filter P p (x ∷ xs) h = Each-if P p x xs (p x) h.0 (Each-filter P p xs h.1)

pub chan_eq_refl : (c : Chan) → chan_eq c c ≡ true
chan_eq_refl Zero = refl
chan_eq_refl One = refl

pub chan_eq-true : (c d : Chan) → chan_eq c d ≡ true → c ≡ d
chan_eq-true Zero Zero h = refl
chan_eq-true One One h = refl
chan_eq-true Zero One h = absurd cc
chan_eq-true One Zero h = absurd cc

pub nat_eq_refl : (n : ℕ) → nat_eq n n ≡ true
nat_eq_refl n = eq-eqb n n refl

pub and_left : (a b : Bool) → (a && b) ≡ true → a ≡ true
and_left true b h = refl
and_left false b h = h

pub and_right : (a b : Bool) → (a && b) ≡ true → b ≡ true
and_right true b h = h
and_right false b h = absurd cc

pub numbered-append : (k : ℕ) (xs ys : List Message) → numbered k (xs ++ ys) ≡ numbered k xs ++ numbered (k + length xs) ys
numbered-append k [] ys = ap (λ j. numbered j ys) (omega arith)
numbered-append k (x ∷ xs) ys =
    let shift : suc k + length xs ≡ k + suc (length xs) = omega arith in
    ap (λ (l : List Message). record x { number = k } ∷ l) (numbered-append (suc k) xs ys
    ∙ ap (λ j. numbered (suc k) xs ++ numbered j ys) shift)

pub numbered-numbered : (j k : ℕ) (xs : List Message) → numbered k (numbered j xs) ≡ numbered k xs
numbered-numbered j k [] = refl
numbered-numbered j k (x ∷ xs) = ap (λ (l : List Message). record x { number = k } ∷ l) (numbered-numbered (suc j) (suc k) xs)

pub length-numbered : (k : ℕ) (xs : List Message) → length (numbered k xs) ≡ length xs
length-numbered k [] = refl
length-numbered k (x ∷ xs) = ap suc (length-numbered (suc k) xs)

-- a fact that no number bears on
pub Each-numbered : (P : Message → Type 0) → ((m : Message) (k : ℕ) → P m → P (record m { number = k })) →
    (k : ℕ) (ms : List Message) → Each P ms → Each P (numbered k ms)
Each-numbered P f k [] h = tt
Each-numbered P f k (m ∷ ms) h = (f m k h.0, Each-numbered P f (suc k) ms h.1)
