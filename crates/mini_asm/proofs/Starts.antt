-- The words of memory at the start.
use Rattle.std.proofs.Common.{◌≡◌, ℕ, ◌+◌, ◌<◌, List, [], ◌∷◌, ◌++◌, length, get_or, drop, set, replicate, refl, sym, ap, subst}
use Rattle.std.proofs.Common.{◌∙◌, inl, inr, arith}
use Rattle.std.proofs.lemmas.List.{drop_more, get_or-set_same, get_or-set_other, get_or-replicate, get_or_past}
use Rattle.std.proofs.lemmas.List.{length-replicate, length-set}
use Rattle.std.proofs.lemmas.Bool.{cases_lt}
use Rattle.std.specs.Prelude.{slice_index}
use Rattle.mini_asm.specs.Run.{IsInit, IsApart, with_given, first_words}

pub length-with_given : (init : List (ℕ × ℕ)) (words : List ℕ) → length (with_given init words) ≡ length words
length-with_given [] words = refl
length-with_given (given ∷ rest) words = length-with_given rest (set words given.0 given.1) ∙ length-set words given.0 given.1

pub with_given-apart : (address : ℕ) (init : List (ℕ × ℕ)) (words : List ℕ) → IsApart address init →
    get_or (with_given init words) address 0 ≡ get_or words address 0
with_given-apart address [] words apart = refl
with_given-apart address (given ∷ rest) words apart =
    with_given-apart address rest (set words given.0 given.1) apart.1
    ∙ get_or-set_other words given.0 address given.1 0 (λ e. apart.0 (sym e))

pub with_given-at : (address value : ℕ) (before after : List (ℕ × ℕ)) (words : List ℕ) (size : ℕ) → length words ≡ size →
    IsInit size (before ++ (address, value) ∷ after)
    → get_or (with_given (before ++ (address, value) ∷ after) words) address 0 ≡ value
with_given-at address value [] after words size len init =
    with_given-apart address after (set words address value) init.1
    ∙ get_or-set_same words address value 0 (omega (arith, init.0, len))
with_given-at address value (given ∷ before) after words size len init =
    with_given-at address value before after (set words given.0 given.1) size (length-set words given.0 given.1 ∙ len) init.2

pub zeros : (size address : ℕ) → slice_index (replicate size 0) address ≡ 0
zeros size address = elim (cases_lt address size) [
  | inl lt ↦ get_or-replicate size address 0 0 lt
  | inr le ↦ let zero_word : ℕ = 0 in get_or_past (replicate size zero_word) address 0
      (omega (arith, length-replicate size zero_word))
]

pub length-first_words : (size : ℕ) (init : List (ℕ × ℕ)) → length (first_words size init) ≡ size
length-first_words size init = length-with_given init (replicate size 0) ∙ length-replicate size 0

-- ---- the loop that puts them in

pub init-here : (size : ℕ) (init : List (ℕ × ℕ)) (at : ℕ) (given : ℕ × ℕ) → at < length init → given ≡ get_or init at given →
    IsInit size (drop at init) → given.0 < size
init-here size init at given lt is h =
    let here : IsInit size (given ∷ drop (at + 1) init) = subst (λ (x : List (ℕ × ℕ)). IsInit size x)
    (drop_more init at given lt ∙ ap (λ x. x ∷ drop (at + 1) init) (sym is)) h in
    here.0

pub init-later : (size : ℕ) (init : List (ℕ × ℕ)) (at : ℕ) (given : ℕ × ℕ) → at < length init → given ≡ get_or init at given →
    IsInit size (drop at init) → IsInit size (drop (at + 1) init)
init-later size init at given lt is h =
    let here : IsInit size (given ∷ drop (at + 1) init) = subst (λ (x : List (ℕ × ℕ)). IsInit size x)
    (drop_more init at given lt ∙ ap (λ x. x ∷ drop (at + 1) init) (sym is)) h in
    here.2
