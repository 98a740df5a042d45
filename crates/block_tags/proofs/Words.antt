-- The words that a list of addresses and values begins with.
use Rattle.std.proofs.Common.{◌≡◌, ◌≢◌, ℕ, suc, ◌-◌, ◌<◌, ◌≤◌, List, [], ◌∷◌, length, map, get_or, set, drop, replicate, refl}
use Rattle.std.proofs.Common.{sym, ap, ◌∙◌, subst, inl, inr, arith, drop-cons}
use Rattle.std.proofs.Math.ListN.{length-set}
use Rattle.std.proofs.lemmas.Bool.{cases_eq}
use Rattle.std.proofs.lemmas.Bool.Decides.{nat_tests}
use Rattle.std.proofs.lemmas.List.{get_or-set_same, get_or-set_other, length-replicate, get_or-replicate}
use Rattle.std.proofs.lemmas.List.FromFn.{fill_by_all, get_or-map-range_with_len, length-map-range_with_len}
use Rattle.std.specs.List.{range_with_len}
use Rattle.block_tags.specs.Copies.{init_value}

pub no_values : (size : ℕ) → replicate size 0 ≡ map (init_value []) (range_with_len 0 size)
no_values size = fill_by_all (init_value []) (replicate size 0) size 0 (length-replicate size 0)
    (λ k lt. get_or-replicate size k 0 0 lt)

value_same : (p : ℕ × ℕ) (ps : List (ℕ × ℕ)) (k : ℕ) → k ≡ p.0 → p.1 ≡ init_value (p ∷ ps) k
value_same p ps k e = grind (arith, nat_tests)

value_other : (p : ℕ × ℕ) (ps : List (ℕ × ℕ)) (k : ℕ) → k ≢ p.0 → init_value ps k ≡ init_value (p ∷ ps) k
value_other p ps k ne = grind (arith, nat_tests)

-- one value more
pub values_more : (p : ℕ × ℕ) (ps : List (ℕ × ℕ)) (size : ℕ) → p.0 < size
    → set (map (init_value ps) (range_with_len 0 size)) p.0 p.1 ≡ map (init_value (p ∷ ps)) (range_with_len 0 size)
values_more p ps size h =
    let long : length (map (init_value ps) (range_with_len 0 size)) ≡ size = length-map-range_with_len (init_value ps) 0 size in
    fill_by_all (init_value (p ∷ ps)) (set (map (init_value ps) (range_with_len 0 size)) p.0 p.1) size 0
    (length-set (map (init_value ps) (range_with_len 0 size)) p.0 p.1 ∙ long) (λ k lt. elim (cases_eq k p.0) [
      | inl e ↦ rw e (get_or-set_same (map (init_value ps) (range_with_len 0 size)) p.0 p.1 0 (omega (arith, long))
          ∙ value_same p ps p.0 refl)
      | inr ne ↦ get_or-set_other (map (init_value ps) (range_with_len 0 size)) p.0 k p.1 0 ne
          ∙ get_or-map-range_with_len (init_value ps) 0 size k k 0 lt (omega arith) ∙ value_other p ps k ne
    ])

pub values_before : (init : List (ℕ × ℕ)) (size at : ℕ) → 0 < at → at ≤ length init → (get_or init (at - 1) (0, 0)).0 < size
    → set (map (init_value (drop at init)) (range_with_len 0 size)) (get_or init (at - 1) (0, 0)).0
    (get_or init (at - 1) (0, 0)).1 ≡ map (init_value (drop (at - 1) init)) (range_with_len 0 size)
values_before init size at some few good =
    let p = get_or init (at - 1) (0, 0) in
    let e : drop (at - 1) init ≡ p ∷ drop (suc (at - 1)) init = drop-cons init (at - 1) (0, 0) (omega arith) in
    let n : suc (at - 1) ≡ at = omega arith in
    subst (λ (z : List (ℕ × ℕ)). set (map (init_value (drop at init)) (range_with_len 0 size)) p.0 p.1
    ≡ map (init_value z) (range_with_len 0 size)) (sym (e ∙ ap (λ k. p ∷ drop k init) n))
    (values_more p (drop at init) size good)
