-- Tests joined.
use Rattle.std.proofs.Common.{◌≡◌, Bool, true, false, not, ◌&&◌, ◌||◌, refl, sym, ◌∙◌}
use Rattle.std.specs.Bool.{Decides}
use Rattle.tw_base.specs.declared.message.Chan.{Chan}
use Rattle.tw_base.specs.declared.message.Chan.TheVariants.{Zero, One}
use Rattle.note_reads.proofs.Lists.{both_so}

implied : (a b : Bool) (P Q : Type 0) → Decides a P → Decides b Q → Decides (not a || b) (P → Q)
implied true true P Q h k = (λ e p. k.0 refl, λ f. refl)
implied true false P Q h k = (λ e. absurd cc, λ f. absurd (let e = k.1 (f (h.0 refl)) in cc))
implied false b P Q h k = (λ e p. absurd (let f = h.1 p in cc), λ f. refl)

pub implies_so : (a b r : Bool) (P Q : Type 0) → Decides a P → Decides b Q → r ≡ not a || b → Decides r (P → Q)
implies_so a b r P Q h k e = let d = implied a b P Q h k in (λ y. d.0 (sym e ∙ y), λ y. e ∙ d.1 y)

pub not_so : (a : Bool) (P : Type 0) → Decides a P → Decides (not a) (P → ⊥)
not_so true P h = (λ e. absurd cc, λ f. absurd (f (h.0 refl)))
not_so false P h = (λ e p. let k = h.1 p in absurd cc, λ f. refl)

pub waits_so : (a m x r : Bool) (P M X : Type 0) → Decides a P → Decides m M → Decides x X → r ≡ not a || (m && x) →
    Decides r (P → M × X)
waits_so a m x r P M X h k l e = implies_so a (m && x) r P (M × X) h (both_so m x (m && x) M X k l refl) e

pub on_both : (P : Chan → Type 0) → P Zero → P One → (k : Chan) → P k
on_both P a b Zero = a
on_both P a b One = b
