-- Lines that are due, with those of one more.
use Rattle.std.proofs.Common.{◌≡◌, ℕ, zero, suc, ◌+◌, ◌<◌, List, [], ◌∷◌, ◌++◌, length, get_or, take, sym, ap, ◌∙◌}
use Rattle.std.proofs.Common.{append_assoc, arith}
use Rattle.std.specs.List.{flat_map, enumerate_from, range_with_len}
use Rattle.std.proofs.lemmas.List.{append-nil}
use Rattle.std.proofs.lemmas.List.Concat.{flat_map-append}
use Rattle.printed_text.proofs.Enumerating.{enumerate_from-more}
use Rattle.report_audit.specs.declared.due.Due.{Due}

joined : {X : Type 0} (f : X → List Due) (old before after : List Due) (xs : List X) (x : X) → before ≡ old ++ flat_map f xs →
    after ≡ before ++ f x → after ≡ old ++ flat_map f (xs ++ x ∷ [])
joined f old before after xs x p q =
    q ∙ ap (λ l. l ++ f x) p ∙ append_assoc old (flat_map f xs) (f x)
    ∙ ap (λ l. old ++ l) (sym (flat_map-append f xs (x ∷ []) ∙ ap (λ l. flat_map f xs ++ l) (append-nil (f x))))

-- of a list, by the places
pub grown : {X : Type 0} (f : ℕ × X → List Due) (old before after : List Due) (xs : List X) (i : ℕ) (d : X) → i < length xs →
    before ≡ old ++ flat_map f (enumerate_from 0 (take i xs)) →
    after ≡ before ++ f (i, get_or xs i d) → after ≡ old ++ flat_map f (enumerate_from 0 (take (i + 1) xs))
grown f old before after xs i d lt p q =
    joined f old before after (enumerate_from 0 (take i xs)) (i, get_or xs i d) p q
    ∙ ap (λ l. old ++ flat_map f l) (sym (enumerate_from-more xs i d lt))

range-more : (a n : ℕ) → range_with_len a (suc n) ≡ range_with_len a n ++ (a + n) ∷ []
range-more a zero = let none : a ≡ a + 0 = omega arith in ap (λ k. k ∷ []) none
range-more a (suc n) =
    let next : a + 1 + n ≡ a + suc n = omega arith in
    ap (λ l. a ∷ l) (range-more (a + 1) n ∙ ap (λ k. range_with_len (a + 1) n ++ k ∷ []) next)

range-next : (n : ℕ) → range_with_len 0 (n + 1) ≡ range_with_len 0 n ++ n ∷ []
range-next n =
    let one : n + 1 ≡ suc n = omega arith in
    let same : 0 + n ≡ n = omega arith in
    ap (range_with_len 0) one ∙ range-more 0 n ∙ ap (λ k. range_with_len 0 n ++ k ∷ []) same

-- of numbers
pub grown_to : (f : ℕ → List Due) (old before after : List Due) (n : ℕ) → before ≡ old ++ flat_map f (range_with_len 0 n) →
    after ≡ before ++ f n → after ≡ old ++ flat_map f (range_with_len 0 (n + 1))
grown_to f old before after n p q = joined f old before after (range_with_len 0 n) n p q
    ∙ ap (λ l. old ++ flat_map f l) (sym (range-next n))
