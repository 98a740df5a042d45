-- Lists with their places, piece by piece.
use Rattle.std.proofs.Common.{◌≡◌, ℕ, ◌+◌, ◌<◌, List, [], ◌∷◌, ◌++◌, length, get_or, take, sym, ap, ◌∙◌, append_assoc, arith}
use Rattle.std.specs.List.{flat_map, enumerate_from}
use Rattle.std.proofs.lemmas.List.{append-nil, take_more, length-take-le}
use Rattle.std.proofs.lemmas.List.Concat.{flat_map-append}

enumerate_from-append : {X : Type 0} (n : ℕ) (xs ys : List X) →
    enumerate_from n (xs ++ ys) ≡ enumerate_from n xs ++ enumerate_from (n + length xs) ys
enumerate_from-append n [] ys = ap (λ k. enumerate_from k ys) (omega arith)
enumerate_from-append n (x ∷ xs) ys =
    ap (λ rest. (n, x) ∷ rest) (enumerate_from-append (n + 1) xs ys
    ∙ ap (λ k. enumerate_from (n + 1) xs ++ enumerate_from k ys) (omega arith))

-- one more
pub enumerate_from-more : {X : Type 0} (xs : List X) (i : ℕ) (d : X) → i < length xs →
    enumerate_from 0 (take (i + 1) xs) ≡ enumerate_from 0 (take i xs) ++ (i, get_or xs i d) ∷ []
enumerate_from-more xs i d lt =
    ap (enumerate_from 0) (take_more xs i d lt) ∙ enumerate_from-append 0 (take i xs) (get_or xs i d ∷ [])
    ∙ ap (λ k. enumerate_from 0 (take i xs) ++ (k, get_or xs i d) ∷ []) (omega (arith, length-take-le i xs (omega arith)))

-- what a function makes of one more
pub flat_map-enumerate_from-more : {X : Type 0} (f : ℕ × X → List ℕ) (xs : List X) (i : ℕ) (d : X) → i < length xs
    → flat_map f (enumerate_from 0 (take (i + 1) xs)) ≡ flat_map f (enumerate_from 0 (take i xs)) ++ f (i, get_or xs i d)
flat_map-enumerate_from-more f xs i d lt =
    ap (flat_map f) (enumerate_from-more xs i d lt) ∙ flat_map-append f (enumerate_from 0 (take i xs)) ((i, get_or xs i d) ∷ [])
    ∙ ap (λ end. flat_map f (enumerate_from 0 (take i xs)) ++ end) (append-nil (f (i, get_or xs i d)))

-- a text that grew by a piece
pub grown_by : (old before after piece whole whole' : List ℕ) → before ≡ old ++ whole → after ≡ before ++ piece →
    whole' ≡ whole ++ piece → after ≡ old ++ whole'
grown_by old before after piece whole whole' p q r = q ∙ ap (λ l. l ++ piece) p ∙ append_assoc old whole piece
    ∙ ap (λ l. old ++ l) (sym r)
