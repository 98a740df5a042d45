-- A form and a line, place by place.
use Rattle.std.proofs.Common.{◌≡◌, ℕ, suc, ◌+◌, ◌<◌, ◌≤◌, ◌&&◌, Bool, true, false, List, [], ◌∷◌, length, map, drop, get_or}
use Rattle.std.proofs.Common.{refl, ap, sym, ◌∙◌}
use Rattle.std.proofs.lemmas.List.{at_drop_all, at_drop_more}
use Rattle.tw_base.specs.Shape.{Sizes}
use Rattle.tw_lex.specs.declared.token.Token.{Token}
use Rattle.report_reader.specs.declared.slot.Slot.{Slot as Coded}
use Rattle.report_reader.specs.Slots.{fits, fits_what, shown}

and-false : (b : Bool) → false ≡ (b && false)
and-false true = refl
and-false false = refl

-- a line that is shorter or longer does not have the form
pub fits-unlike : (shape : Sizes) (before : ℕ) (slots : List Coded) (ts : List Token) → (length slots ≡ length ts → ⊥) →
    false ≡ fits shape before (map shown slots) ts
unfolding fits
fits-unlike shape before [] [] h = absurd (h refl)
fits-unlike shape before [] (t ∷ ts) h = refl
fits-unlike shape before (s ∷ ss) [] h = refl
fits-unlike shape before (s ∷ ss) (t ∷ ts) h =
    let rest : false ≡ fits shape before (map shown ss) ts = fits-unlike shape before ss ts (λ e. h (ap (λ (n : ℕ). suc n) e)) in
    and-false (fits_what shape before (shown s) t.what) ∙ ap (λ (b : Bool). fits_what shape before (shown s) t.what && b) rest

-- one place more
fits-turn : (shape : Sizes) (before : ℕ) (slots : List Coded) (ts : List Token) (i : ℕ) (d : Coded) (t : Token) (b : Bool) →
    i < length slots → i < length ts →
    b ≡ fits_what shape before (shown (get_or slots i d)) (get_or ts i t).what →
    fits shape before (map shown (drop i slots)) (drop i ts)
    ≡ (b && fits shape before (map shown (drop (i + 1) slots)) (drop (i + 1) ts))
unfolding fits
fits-turn shape before slots ts i d t b h k e =
    at_drop_more (λ (l : List Coded). fits shape before (map shown l) (drop i ts)) slots i d h
    ∙ at_drop_more (λ (l : List Token). fits shape before (map shown (get_or slots i d ∷ drop (i + 1) slots)) l) ts i t k
    ∙ ap (λ (c : Bool). c && fits shape before (map shown (drop (i + 1) slots)) (drop (i + 1) ts)) (sym e)

pub fits-stops : (shape : Sizes) (before : ℕ) (slots : List Coded) (ts : List Token) (i : ℕ) (d : Coded) (t : Token)
    (r all : Bool) → i < length slots → i < length ts →
    r ≡ fits_what shape before (shown (get_or slots i d)) (get_or ts i t).what → r ≡ false →
    fits shape before (map shown (drop i slots)) (drop i ts) ≡ all → false ≡ all
fits-stops shape before slots ts i d t r all h k e unfit inv =
    sym (fits-turn shape before slots ts i d t false h k (sym unfit ∙ e)) ∙ inv

pub fits-goes : (shape : Sizes) (before : ℕ) (slots : List Coded) (ts : List Token) (i : ℕ) (d : Coded) (t : Token)
    (r all : Bool) → i < length slots → i < length ts →
    r ≡ fits_what shape before (shown (get_or slots i d)) (get_or ts i t).what → r ≡ true →
    fits shape before (map shown (drop i slots)) (drop i ts) ≡ all →
    fits shape before (map shown (drop (i + 1) slots)) (drop (i + 1) ts) ≡ all
fits-goes shape before slots ts i d t r all h k e fit inv = sym (fits-turn shape before slots ts i d t true h k (sym fit ∙ e))
    ∙ inv

pub fits-ends : (shape : Sizes) (before : ℕ) (slots : List Coded) (ts : List Token) (i : ℕ) (all : Bool) → length slots ≤ i →
    length ts ≤ i →
    fits shape before (map shown (drop i slots)) (drop i ts) ≡ all → true ≡ all
unfolding fits
fits-ends shape before slots ts i all h k inv =
    sym (at_drop_all (λ (l : List Coded). fits shape before (map shown l) (drop i ts)) slots i h
    ∙ at_drop_all (λ (l : List Token). fits shape before [] l) ts i k) ∙ inv
