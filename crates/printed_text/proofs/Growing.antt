-- A text that grows by a piece for each of a list.
use Rattle.std.proofs.Common.{◌≡◌, ℕ, zero, suc, ◌+◌, ◌<◌, List, [], ◌∷◌, ◌++◌, length, get_or, take, sym, ap, ◌∙◌}
use Rattle.std.proofs.Common.{append_assoc, arith}
use Rattle.std.specs.List.{flat_map, enumerate_from, range_with_len}
use Rattle.std.proofs.lemmas.List.{append-nil}
use Rattle.std.proofs.lemmas.List.Concat.{flat_map-append}
use Rattle.printed_text.proofs.Enumerating.{enumerate_from-more, flat_map-enumerate_from-more}

-- after one more
pub grown : {X : Type 0} (f : ℕ × X → List ℕ) (old before after : List ℕ) (xs : List X) (i : ℕ) (x : X) → i < length xs →
    x ≡ get_or xs i x → before ≡ old ++ flat_map f (enumerate_from 0 (take i xs)) → after ≡ before ++ f (i, x) →
    after ≡ old ++ flat_map f (enumerate_from 0 (take (i + 1) xs))
grown {X} f old before after xs i x lt e p q =
    q ∙ ap (λ l. l ++ f (i, x)) p ∙ append_assoc old (flat_map f (enumerate_from 0 (take i xs))) (f (i, x))
    ∙ ap (λ l. old ++ l)
    (sym
    (ap (flat_map f) (enumerate_from-more xs i x lt ∙ ap (λ (y : X). enumerate_from 0 (take i xs) ++ (i, y) ∷ []) (sym e))
    ∙ flat_map-append f (enumerate_from 0 (take i xs)) ((i, x) ∷ [])
    ∙ ap (λ l. flat_map f (enumerate_from 0 (take i xs)) ++ l) (append-nil (f (i, x)))))

range-more : (a n : ℕ) → range_with_len a (suc n) ≡ range_with_len a n ++ (a + n) ∷ []
range-more a zero = let none : a ≡ a + 0 = omega arith in ap (λ k. k ∷ []) none
range-more a (suc n) =
    let next : a + 1 + n ≡ a + suc n = omega arith in
    ap (λ l. a ∷ l) (range-more (a + 1) n ∙ ap (λ k. range_with_len (a + 1) n ++ k ∷ []) next)

-- after one number more
pub range_grown : (f : ℕ → List ℕ) (old before after : List ℕ) (n : ℕ) → before ≡ old ++ flat_map f (range_with_len 0 n) →
    after ≡ before ++ f n → after ≡ old ++ flat_map f (range_with_len 0 (n + 1))
range_grown f old before after n p q =
    let same : 0 + n ≡ n = omega arith in
    let one : n + 1 ≡ suc n = omega arith in
    q ∙ ap (λ l. l ++ f n) p ∙ append_assoc old (flat_map f (range_with_len 0 n)) (f n)
    ∙ ap (λ l. old ++ l)
    (sym
    (ap (flat_map f) (ap (range_with_len 0) one ∙ range-more 0 n ∙ ap (λ k. range_with_len 0 n ++ k ∷ []) same)
    ∙ flat_map-append f (range_with_len 0 n) (n ∷ [])
    ∙ ap (λ l. flat_map f (range_with_len 0 n) ++ l) (append-nil (f n))))

-- after one more, read with a value for what is not there
pub grown_at : {X : Type 0} (f : ℕ × X → List ℕ) (old before after : List ℕ) (xs : List X) (i : ℕ) (d : X) → i < length xs →
    before ≡ old ++ flat_map f (enumerate_from 0 (take i xs)) → after ≡ before ++ f (i, get_or xs i d) →
    after ≡ old ++ flat_map f (enumerate_from 0 (take (i + 1) xs))
grown_at f old before after xs i d lt p q =
    q ∙ ap (λ l. l ++ f (i, get_or xs i d)) p ∙ append_assoc old (flat_map f (enumerate_from 0 (take i xs)))
    (f (i, get_or xs i d))
    ∙ ap (λ l. old ++ l) (sym (flat_map-enumerate_from-more f xs i d lt))
