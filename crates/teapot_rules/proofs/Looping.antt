-- Least lines of lists, an item at a time.
use Rattle.std.proofs.Common.{◌≡◌, ℕ, ◌+◌, ◌<◌, ◌≤◌, Bool, List, [], ◌∷◌, ◌++◌, take, drop, length, get_or, Option, ap, sym, ◌∙◌}
use Rattle.std.proofs.Math.ListN.{drop_of_length-le}
use Rattle.std.proofs.lemmas.List.{drop_more, take_more}
use Rattle.std.specs.List.{flat_map, list_any}
use Rattle.teapot_rules.specs.Lists.{lesser, least, line_if, again}
use Rattle.teapot_rules.proofs.Appending.{least-append, lesser-assoc, lesser-none}

pub flat_step : {X : Type 0} (f : X → List ℕ) (xs : List X) (i : ℕ) (x : X) → i < length xs → x ≡ get_or xs i x →
    least (flat_map f (drop i xs)) ≡ lesser (least (f x)) (least (flat_map f (drop (i + 1) xs)))
flat_step f xs i x lt is =
    ap (λ z. least (flat_map f z)) (drop_more xs i x lt) ∙ ap (λ z. least (f z ++ flat_map f (drop (i + 1) xs))) (sym is)
    ∙ least-append (f x) (flat_map f (drop (i + 1) xs))

-- what was found so far, with one item more
pub flat_more : {X : Type 0} (f : X → List ℕ) (xs : List X) (i : ℕ) (x : X) (due found : Option ℕ) → i < length xs →
    x ≡ get_or xs i x → due ≡ lesser found (least (flat_map f (drop i xs)))
    → due ≡ lesser (lesser found (least (f x))) (least (flat_map f (drop (i + 1) xs)))
flat_more f xs i x due found lt is e = e ∙ ap (lesser found) (flat_step f xs i x lt is)
    ∙ sym (lesser-assoc found (least (f x)) (least (flat_map f (drop (i + 1) xs))))

pub flat_end : {X : Type 0} (f : X → List ℕ) (xs : List X) (i : ℕ) (due found : Option ℕ) → length xs ≤ i →
    due ≡ lesser found (least (flat_map f (drop i xs))) → found ≡ due
flat_end f xs i due found le e = sym (e ∙ ap (λ z. lesser found (least (flat_map f z))) (drop_of_length-le xs le)
    ∙ lesser-none found)

pub again_more : {X : Type 0} (same : X → X → Bool) (line : X → ℕ) (xs : List X) (i : ℕ) (x : X) (due found : Option ℕ) →
    i < length xs → x ≡ get_or xs i x
    → due ≡ lesser found (least (again same line (take i xs) (drop i xs)))
    → due ≡ lesser (lesser found (least (line_if (list_any (same x) (take i xs)) (line x))))
    (least (again same line (take (i + 1) xs) (drop (i + 1) xs)))
again_more same line xs i x due found lt is e =
    e ∙ ap (λ z. lesser found (least (again same line (take i xs) z)))
    (drop_more xs i x lt ∙ ap (λ z. z ∷ drop (i + 1) xs) (sym is))
    ∙ ap (lesser found) (least-append (line_if (list_any (same x) (take i xs)) (line x))
    (again same line (take i xs ++ x ∷ []) (drop (i + 1) xs)))
    ∙ sym (lesser-assoc found (least (line_if (list_any (same x) (take i xs)) (line x)))
    (least (again same line (take i xs ++ x ∷ []) (drop (i + 1) xs))))
    ∙ ap (λ z. lesser (lesser found (least (line_if (list_any (same x) (take i xs)) (line x))))
    (least (again same line z (drop (i + 1) xs)))) (ap (λ z. take i xs ++ z ∷ []) is ∙ sym (take_more xs i x lt))

pub again_end : {X : Type 0} (same : X → X → Bool) (line : X → ℕ) (xs : List X) (i : ℕ) (due found : Option ℕ) →
    length xs ≤ i → due ≡ lesser found (least (again same line (take i xs) (drop i xs))) → found ≡ due
again_end same line xs i due found le e =
    sym (e ∙ ap (λ z. lesser found (least (again same line (take i xs) z))) (drop_of_length-le xs le) ∙ lesser-none found)
