-- The first eligible message of a list, and the others.
use Rattle.std.proofs.Common.{◌≡◌, ℕ, suc, ◌+◌, ◌<◌, nat_lt, true, false, ◌&&◌, List, [], ◌∷◌, ◌++◌, length, length-append}
use Rattle.std.proofs.Common.{take, drop, get_or, Option, Some, None, refl, ap, sym, ◌∙◌, subst, arith}
use Rattle.std.specs.Prelude.{if◌then◌else◌, position}
use Rattle.std.specs.List.{list_all, position_or_len}
use Rattle.std.proofs.lemmas.Bool.Decides.{Decides-ltb}
use Rattle.std.proofs.lemmas.List.Folds.{list_all-append}
use Rattle.tw_base.specs.Lists.{Each}
use Rattle.tw_base.specs.declared.message.Message.{Message}
use Rattle.dsm_runs.specs.declared.mode.Waiting.{Waiting}
use Rattle.dsm_model.specs.Kept.{is_for}
use Rattle.dsm_runs.specs.Locals.{IsFirst, IsStale}
use Rattle.dsm_runs.proofs.Lists.{and_left, and_right}
use Rattle.dsm_model.proofs.Handlings.{both, is_waiting_for}

abbrev eligible : Message → Waiting
eligible m = record { message = m; eligible = true }

-- how many messages stand before it
before_is : (m : Message) (earlier later : List Waiting) → Each IsStale earlier →
    position_or_len (λ w. w.eligible) (earlier ++ eligible m ∷ later) ≡ length earlier
before_is m [] later h = refl
before_is m (w ∷ earlier) later h =
    let rest : position_or_len (λ w. w.eligible) (earlier ++ eligible m ∷ later) ≡ length earlier =
    before_is m earlier later h.1 in
    let stale : w.eligible ≡ false = h.0 in
    rw stale (omega (arith, rest))

abbrev place_in : ℕ → ℕ → Option ℕ
place_in k n = if nat_lt k n then Some k else None

pub first_within : (ws : List Waiting) (m : Message) (earlier later : List Waiting) → IsFirst m earlier later ws →
    length earlier < length ws
first_within ws m earlier later h =
    let long : length ws ≡ length (earlier ++ eligible m ∷ later) = ap (λ (xs : List Waiting). length xs) h.found in
    omega (arith, long, length-append earlier (eligible m ∷ later))

pub place_is : (ws : List Waiting) (m : Message) (earlier later : List Waiting) → IsFirst m earlier later ws →
    position (λ w. w.eligible) ws ≡ Some (length earlier)
place_is ws m earlier later h =
    let at : position_or_len (λ w. w.eligible) ws ≡ length earlier =
    ap (λ (xs : List Waiting). position_or_len (λ w. w.eligible) xs) h.found ∙ before_is m earlier later h.stale in
    let lt : length earlier < length ws = first_within ws m earlier later h in
    ap (λ k. place_in k (length ws)) at ∙ ap (λ b. if b then Some (length earlier) else None)
    ((Decides-ltb (length earlier) (length ws)).1 lt)

cut : (m : Message) (earlier later : List Waiting) (d : Waiting) → Each IsStale earlier
    → IsFirst (get_or (earlier ++ eligible m ∷ later) (length earlier) d).message
    (take (length earlier) (earlier ++ eligible m ∷ later)) (drop (suc (length earlier)) (earlier ++ eligible m ∷ later))
    (earlier ++ eligible m ∷ later)
cut m [] later d h = record { found = refl; stale = tt }
cut m (w ∷ earlier) later d h =
    let rest = cut m earlier later d h.1 in
    record { found = ap (λ (xs : List Waiting). w ∷ xs) rest.found; stale = (h.0, rest.stale) }

-- the same message, by its place
pub first_at : (ws : List Waiting) (m : Message) (earlier later : List Waiting) (at : ℕ) (d : Waiting) →
    IsFirst m earlier later ws → at ≡ length earlier
    → IsFirst (get_or ws at d).message (take at ws) (drop (at + 1) ws) ws
first_at ws m earlier later at d h e =
    let next : suc (length earlier) ≡ at + 1 = omega (arith, e) in
    subst (λ k. IsFirst (get_or ws at d).message (take at ws) (drop k ws) ws) next
    (subst (λ k. IsFirst (get_or ws k d).message (take k ws) (drop (suc (length earlier)) ws) ws) (sym e)
    (subst (λ (xs : List Waiting). IsFirst (get_or xs (length earlier) d).message (take (length earlier) xs)
    (drop (suc (length earlier)) xs) xs) (sym h.found) (cut m earlier later d h.stale)))

pub others_for : (n : ℕ) (m : Message) (earlier later ws : List Waiting) → IsFirst m earlier later ws →
    list_all (is_waiting_for n) ws ≡ true → list_all (is_waiting_for n) (earlier ++ later) ≡ true
others_for n m earlier later ws h all =
    let parts : (list_all (is_waiting_for n) earlier && (is_for n m && list_all (is_waiting_for n) later)) ≡ true =
    sym (ap (λ (xs : List Waiting). list_all (is_waiting_for n) xs) h.found
    ∙ list_all-append (is_waiting_for n) earlier (eligible m ∷ later)) ∙ all in
    list_all-append (is_waiting_for n) earlier later
    ∙ both (list_all (is_waiting_for n) earlier) (list_all (is_waiting_for n) later)
    (and_left (list_all (is_waiting_for n) earlier) (is_for n m && list_all (is_waiting_for n) later) parts)
    (and_right (is_for n m) (list_all (is_waiting_for n) later)
    (and_right (list_all (is_waiting_for n) earlier) (is_for n m && list_all (is_waiting_for n) later) parts))

pub first_for : (n : ℕ) (m : Message) (earlier later ws : List Waiting) → IsFirst m earlier later ws →
    list_all (is_waiting_for n) ws ≡ true → m.block < n
first_for n m earlier later ws h all =
    let parts : (list_all (is_waiting_for n) earlier && (is_for n m && list_all (is_waiting_for n) later)) ≡ true =
    sym (ap (λ (xs : List Waiting). list_all (is_waiting_for n) xs) h.found
    ∙ list_all-append (is_waiting_for n) earlier (eligible m ∷ later)) ∙ all in
    (Decides-ltb m.block n).0 (and_left (is_for n m) (list_all (is_waiting_for n) later)
    (and_right (list_all (is_waiting_for n) earlier) (is_for n m && list_all (is_waiting_for n) later) parts))

pub same_place : (o : Option ℕ) (i j : ℕ) → o ≡ Some i → o ≡ Some j → i ≡ j
same_place o i j p q = cc
