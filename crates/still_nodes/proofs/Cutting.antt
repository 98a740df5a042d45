-- What is left on the wires, cut into rows.
use Rattle.std.proofs.Common.{◌≡◌, ◌∙◌, ℕ, zero, suc, ◌+◌, ◌*◌, ◌-◌, ◌<◌, ◌≤◌, List, [], ◌∷◌, ◌++◌, drop, get_or, length}
use Rattle.std.proofs.Common.{replicate, take, refl, ap, subst, sym, arith, append_assoc, append-nil, length-append, min}
use Rattle.std.proofs.Math.Nat.{suc-mul}
use Rattle.std.proofs.lemmas.List.{get_or-drop, get_or-take, length-replicate, length-take}
use Rattle.tw_base.specs.Lists.{Each}
use Rattle.tw_base.specs.declared.message.Message.{Message}
use Rattle.still_nodes.specs.Opening.{padded, rows_of}

abbrev Queues : Type 0
Queues = List (List Message)

-- ---- one row

pub length-padded : (queues : Queues) → length queues ≤ 16 → length (padded queues) ≡ 16
length-padded queues few =
    let filling : Queues = replicate (16 - length queues) [] in
    let whole : length (queues ++ filling) ≡ length queues + length filling = length-append queues filling in
    let count : length filling ≡ 16 - length queues = length-replicate (16 - length queues) [] in
    omega arith

empty_at : (m p : ℕ) → get_or {A = List Message} (replicate m []) p [] ≡ []
empty_at zero p = refl
empty_at (suc m) zero = refl
empty_at (suc m) (suc p) = empty_at m p

behind : (queues : Queues) (m p : ℕ) → get_or (queues ++ replicate m []) p [] ≡ get_or queues p []
behind [] m p = empty_at m p
behind (q ∷ queues) m zero = refl
behind (q ∷ queues) m (suc p) = behind queues m p

padded_at : (queues : Queues) (p : ℕ) → get_or (padded queues) p [] ≡ get_or queues p []
padded_at queues p = behind queues (16 - length queues) p

few_taken : (width : ℕ) (queues : Queues) → width ≤ 16 → length (take width queues) ≤ 16
few_taken width queues few =
    let count : length (take width queues) ≡ min width (length queues) = length-take width queues in omega arith

-- ---- all rows

pub length-rows_of : (width k : ℕ) (queues : Queues) → length (rows_of width k queues) ≡ k
length-rows_of width zero queues = refl
length-rows_of width (suc k) queues = let rest = length-rows_of width k (drop width queues) in omega arith

pub rows_are_full : (width k : ℕ) (queues : Queues) → width ≤ 16 → Each (λ row. length row ≡ 16) (rows_of width k queues)
rows_are_full width zero queues few = tt
rows_are_full width (suc k) queues few =
    (length-padded (take width queues) (few_taken width queues few), rows_are_full width k (drop width queues) few)

-- what stands in a row is what was left at its place
pub rows_have :
    (width k : ℕ) (queues : Queues) (f p : ℕ) → f < k → p < width →
    get_or (get_or (rows_of width k queues) f []) p [] ≡ get_or queues (f * width + p) []
rows_have width zero queues f p within at = absurd (omega arith)
rows_have width (suc k) queues zero p within at =
    padded_at (take width queues) p ∙ get_or-take width queues p [] at ∙ ap (λ n. get_or queues n []) (omega arith)
rows_have width (suc k) queues (suc f) p within at =
    let later : width + (f * width + p) ≡ suc f * width + p = omega (arith, suc-mul f width) in
    rows_have width k (drop width queues) f p (omega arith) at
    ∙ get_or-drop width queues (f * width + p) []
    ∙ ap (λ n. get_or queues n []) later

-- ---- the loop that cuts them: rows are made, and those of the queues that are left are still to be made

pub first_row :
    (width n made : ℕ) (rows : List Queues) (queues : Queues) (all : List Queues) → made < n →
    rows ++ rows_of width (n - made) queues ≡ all →
    (rows ++ padded (take width queues) ∷ []) ++ rows_of width (n - suc made) (drop width queues) ≡ all
first_row width n made rows queues all within is =
    let left : n - made ≡ suc (n - suc made) = omega arith in
    append_assoc rows (padded (take width queues) ∷ []) (rows_of width (n - suc made) (drop width queues))
    ∙ subst (λ k. rows ++ rows_of width k queues ≡ all) left is

pub enough_left : (width n made : ℕ) (count : ℕ) → made < n → count ≡ width * (n - made) → width ≤ count
enough_left width n made count within is =
    let left : n - made ≡ suc (n - suc made) = omega arith in
    let is2 : count ≡ width * suc (n - suc made) = subst (λ k. count ≡ width * k) left is in
    omega arith

pub fewer_left :
    (width n made : ℕ) (count rest : ℕ) → made < n → count ≡ width * (n - made) → rest + width ≡ count →
    rest ≡ width * (n - suc made)
fewer_left width n made count rest within is fewer =
    let left : n - made ≡ suc (n - suc made) = omega arith in
    let is2 : count ≡ width * suc (n - suc made) = subst (λ k. count ≡ width * k) left is in
    omega arith

pub all_made : (width n made : ℕ) (rows : List Queues) (queues : Queues) (all : List Queues) → n ≤ made →
    rows ++ rows_of width (n - made) queues ≡ all → rows ≡ all
all_made width n made rows queues all past is =
    let none : n - made ≡ 0 = omega arith in
    sym (append-nil rows) ∙ subst (λ k. rows ++ rows_of width k queues ≡ all) none is
