-- How many of the deferred messages are eligible.
use Rattle.std.proofs.Common.{◌≡◌, ℕ, ◌+◌, ◌<◌, nat_lt, Bool, true, false, ◌||◌, List, [], ◌∷◌, length, cond, refl, ap, ◌∙◌}
use Rattle.std.proofs.Common.{subst, arith}
use Rattle.std.specs.Prelude.{Some, slice_get}
use Rattle.std.specs.List.{count_by, list_any, remove}
use Rattle.std.proofs.lemmas.List.Sums.{sum_by-cons, sum_by-remove}
use Rattle.std.proofs.lemmas.Bool.Decides.{Decides-ltb}
use Rattle.std.proofs.lemmas.Option.{get_or_from_slice_get}
use Rattle.dsm_runs.specs.declared.mode.Waiting.{Waiting}

abbrev pub one_if : Bool → ℕ
one_if b = cond b 1 0

some_more : (b : Bool) (n : ℕ) → nat_lt 0 (one_if b + n) ≡ (b || nat_lt 0 n)
some_more true n = (Decides-ltb 0 (1 + n)).1 (omega arith)
some_more false n = ap (λ k. nat_lt 0 k) (omega arith)

pub some_counted : {X : Type 0} (p : X → Bool) (xs : List X) → nat_lt 0 (count_by p xs) ≡ list_any p xs
some_counted p [] = refl
some_counted p (x ∷ xs) =
    ap (λ n. nat_lt 0 n) (sum_by-cons (λ y. one_if (p y)) x xs) ∙ some_more (p x) (count_by p xs)
    ∙ ap (λ b. p x || b) (some_counted p xs)

-- a message is taken out
pub count_removed : (ws : List Waiting) (i : ℕ) (w : Waiting) → i < length ws → slice_get ws i ≡ Some w →
    count_by (λ v. v.eligible) (remove ws i) + one_if w.eligible ≡ count_by (λ v. v.eligible) ws
count_removed ws i w l e =
    subst (λ (v : Waiting). count_by (λ x. x.eligible) (remove ws i) + one_if v.eligible ≡ count_by (λ x. x.eligible) ws)
    (get_or_from_slice_get ws i w w e)
    (sum_by-remove (λ (v : Waiting). one_if v.eligible) ws i w l)
