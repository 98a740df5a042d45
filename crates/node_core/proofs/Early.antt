-- Which fronts may be delivered.
use Rattle.std.proofs.Common.{◌≡◌, ◌∙◌, ℕ, ◌+◌, ◌*◌, ◌∷◌, ◌&&◌, Bool, true, false, refl, subst}
use Rattle.node_acts.specs.Early.{early_if}
use Rattle.node_parts.specs.Truths.{truths}

pub early_none : (handles eligible : Bool) (early : ℕ) → handles ≡ false → 0 ≡ early_if handles eligible early
early_none handles eligible early e = rw e refl

pub early_eligible : (handles eligible : Bool) (early : ℕ) → eligible ≡ true → 0 ≡ early_if handles eligible early
early_eligible true eligible early e = rw e refl
early_eligible false eligible early e = refl

pub early_all : (handles eligible : Bool) (early : ℕ) → handles ≡ true → eligible ≡ false →
    early ≡ early_if handles eligible early
early_all handles eligible early e f = rw (e, f) refl

-- the word of bits, where its parts are what they are known to be
pub word_is : (n k word early low : ℕ) (instructs handles eligible redelivers : Bool) → k ≡ n → redelivers ≡ (handles && eligible)
    → low ≡ early_if handles eligible early → truths (2 + 2 * k) word ≡ instructs ∷ redelivers ∷ truths (2 * k) low
    → truths (2 + 2 * n) word ≡ instructs ∷ (handles && eligible) ∷ truths (2 * n) (early_if handles eligible early)
word_is n k word early low instructs handles eligible redelivers at both is e =
    subst (λ i. truths (2 + 2 * i) word ≡ instructs ∷ (handles && eligible) ∷ truths (2 * i) (early_if handles eligible early)) at
    (e ∙ (λ j. instructs ∷ both j ∷ truths (2 * k) (is j)))
