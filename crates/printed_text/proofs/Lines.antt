-- A line as its first word and the others behind spaces.
use Rattle.std.proofs.Common.{◌≡◌, ℕ, List, [], ◌∷◌, ◌++◌, refl, sym, ap, ◌∙◌, append_assoc}
use Rattle.std.proofs.lemmas.List.Concat.{flat_map-append}
use Rattle.printed_text.specs.Lines.{line, spaced}

pub line-spaced : (word : List ℕ) (words : List (List ℕ)) → line (word ∷ words) ≡ word ++ (spaced words ++ 10 ∷ [])
line-spaced word [] = refl
line-spaced word (next ∷ words) =
    ap (λ rest. word ++ 32 ∷ rest) (line-spaced next words ∙ sym (append_assoc next (spaced words) (10 ∷ [])))

pub spaced-append : (xs ys : List (List ℕ)) → spaced (xs ++ ys) ≡ spaced xs ++ spaced ys
spaced-append xs ys = flat_map-append (λ word. 32 ∷ word) xs ys

regrouped : (old word a b d e : List ℕ) → ((old ++ (word ++ a)) ++ b) ++ (d ++ e) ≡ old ++ (word ++ ((a ++ (b ++ d)) ++ e))
regrouped old word a b d e = simp append_assoc

-- a text that grew by the first words of a line, by more words, and by the rest of the line
pub line-made : (old begun more end word : List ℕ) (first words rest : List (List ℕ))
    → begun ≡ old ++ (word ++ spaced first) → more ≡ begun ++ spaced words → end ≡ more ++ (spaced rest ++ 10 ∷ [])
    → end ≡ old ++ line (word ∷ (first ++ (words ++ rest)))
line-made old begun more end word first words rest p q r =
    r ∙ ap (λ l. l ++ (spaced rest ++ 10 ∷ [])) (q ∙ ap (λ l. l ++ spaced words) p)
    ∙ regrouped old word (spaced first) (spaced words) (spaced rest) (10 ∷ [])
    ∙ ap (λ l. old ++ (word ++ (l ++ 10 ∷ []))) (sym (spaced-append first (words ++ rest)
    ∙ ap (λ l. spaced first ++ l) (spaced-append words rest)))
    ∙ ap (λ l. old ++ l) (sym (line-spaced word (first ++ (words ++ rest))))
