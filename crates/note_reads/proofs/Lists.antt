-- A list with one more note.
use Rattle.std.proofs.Common.{◌≡◌, ◌≤◌, ◌+◌, ℕ, zero, suc, Bool, true, false, ◌&&◌, List, [], ◌∷◌, ◌++◌, length, refl, sym, ◌∙◌}
use Rattle.std.proofs.Common.{arith, length-append}
use Rattle.std.specs.Bool.{Decides}
use Rattle.tw_base.specs.Lists.{Each, how_many}
use Rattle.block_spots.specs.Cases as cases
use Rattle.block_spots.specs.Notes.{Note}
use Rattle.block_spots.specs.Views.{kind_numbered}

pub past_kind : (n : ℕ) → 10 ≤ n → kind_numbered n ≡ cases.GetRo
past_kind zero h = absurd (omega arith)
past_kind (suc zero) h = absurd (omega arith)
past_kind (suc (suc zero)) h = absurd (omega arith)
past_kind (suc (suc (suc zero))) h = absurd (omega arith)
past_kind (suc (suc (suc (suc zero)))) h = absurd (omega arith)
past_kind (suc (suc (suc (suc (suc zero))))) h = absurd (omega arith)
past_kind (suc (suc (suc (suc (suc (suc zero)))))) h = absurd (omega arith)
past_kind (suc (suc (suc (suc (suc (suc (suc zero))))))) h = absurd (omega arith)
past_kind (suc (suc (suc (suc (suc (suc (suc (suc zero)))))))) h = absurd (omega arith)
past_kind (suc (suc (suc (suc (suc (suc (suc (suc (suc zero))))))))) h = absurd (omega arith)
past_kind (suc (suc (suc (suc (suc (suc (suc (suc (suc (suc n)))))))))) h = refl

pub longer : (ns : List Note) (x : Note) → length (ns ++ x ∷ []) ≡ length ns + 1
longer ns x = length-append ns (x ∷ [])

pub one_more : (f : Note → ℕ) (ns : List Note) (x : Note) → how_many f (ns ++ x ∷ []) ≡ how_many f ns + f x
one_more f [] x = omega arith
one_more f (y ∷ ns) x = omega (arith, one_more f ns x)

each_end : (P : Note → Type 0) (ns : List Note) (x : Note) → Each P ns → P x → Each P (ns ++ x ∷ [])
each_end P [] x h k = (k, tt)
each_end P (y ∷ ns) x h k = (h.0, each_end P ns x h.1 k)

each_before : (P : Note → Type 0) (ns : List Note) (x : Note) → Each P (ns ++ x ∷ []) → Each P ns × P x
each_before P [] x h = (tt, h.0)
each_before P (y ∷ ns) x h = let k = each_before P ns x h.1 in ((h.0, k.0), k.1)

pub both_hold : (a b : Bool) (P Q : Type 0) → Decides a P → Decides b Q → Decides (a && b) (P × Q)
both_hold true true P Q h k = (λ e. (h.0 refl, k.0 refl), λ e. refl)
both_hold true false P Q h k = (λ e. absurd cc, λ e. absurd (let f = k.1 e.1 in cc))
both_hold false b P Q h k = (λ e. absurd cc, λ e. absurd (let f = h.1 e.0 in cc))

pub each_more : (P : Note → Type 0) (ns : List Note) (x : Note) (a b r : Bool) → Decides a (Each P ns) → Decides b (P x) →
    r ≡ a && b → Decides r (Each P (ns ++ x ∷ []))
each_more P ns x a b r h k e =
    let d = both_hold a b (Each P ns) (P x) h k in
    (λ y. let p = d.0 (sym e ∙ y) in each_end P ns x p.0 p.1, λ y. e ∙ d.1 (each_before P ns x y))

pub both_so : (a b r : Bool) (P Q : Type 0) → Decides a P → Decides b Q → r ≡ a && b → Decides r (P × Q)
both_so a b r P Q h k e = let d = both_hold a b P Q h k in (λ y. d.0 (sym e ∙ y), λ y. e ∙ d.1 y)
