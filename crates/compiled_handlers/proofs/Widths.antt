-- How many slots the handler of a place has, where doors rise.
use Rattle.std.proofs.Common.{◌≡◌, ◌∙◌, ℕ, zero, suc, ◌+◌, ◌<◌, ◌≤◌, Bool, true, false, List, [], ◌∷◌, Some, refl, ap, sym}
use Rattle.std.proofs.Common.{subst, arith}
use Rattle.std.specs.Prelude.{if◌then◌else◌, nat_le, slice_get}
use Rattle.std.proofs.lemmas.Bool.{and_parts, le-leb, leb-true, lt-leb}
use Rattle.handler_code.specs.declared.code.Door.{Door}
use Rattle.code_walks.specs.Parts.{place_or}
use Rattle.code_rules.specs.Structure.{rises_from}

-- the slots of the last of these doors that begins at or before a place, or so many where there is none
abbrev pub width_from : ℕ → List Door → ℕ → ℕ
width_from width [] at = width
width_from width (door ∷ doors) at = if nat_le door.at at then width_from door.slots doors at else width

begun : (door : Door) (doors : List Door) (width at : ℕ) → door.at ≤ at →
    width_from width (door ∷ doors) at ≡ width_from door.slots doors at
begun door doors width at l = ap (λ b. if b then width_from door.slots doors at else width) (le-leb door.at at l)

before_next : (doors : List Door) (width n at : ℕ) → at < place_or (slice_get doors 0) n → width_from width doors at ≡ width
before_next [] width n at u = refl
before_next (door ∷ doors) width n at u = ap (λ b. if b then width_from door.slots doors at else width) (lt-leb door.at at u)

not_below : (doors : List Door) (least number : ℕ) (door : Door) → rises_from least doors ≡ true →
    slice_get doors number ≡ Some door → least ≤ door.at
not_below [] least number door r e = cc
not_below (d ∷ doors) least zero door r e =
    let same : d ≡ door = cc in
    let low = and_parts (nat_le least d.at) (rises_from (d.at + 1) doors) r in
    subst (λ (z : Door). least ≤ z.at) same (leb-true least d.at low.0)
not_below (d ∷ doors) least (suc number) door r e =
    let low = and_parts (nat_le least d.at) (rises_from (d.at + 1) doors) r in
    let here = leb-true least d.at low.0 in
    let more = not_below doors (d.at + 1) number door low.1 e in
    omega arith

-- a place of the handler behind the door of this number
pub width_is : (doors : List Door) (width least n at number : ℕ) (door : Door) → rises_from least doors ≡ true →
    slice_get doors number ≡ Some door → door.at ≤ at → at < place_or (slice_get doors (suc number)) n →
    width_from width doors at ≡ door.slots
width_is [] width least n at number door r e l u = cc
width_is (d ∷ doors) width least n at zero door r e l u =
    let same : d ≡ door = cc in
    let from : d.at ≤ at = subst (λ (z : Door). z.at ≤ at) (sym same) l in
    begun d doors width at from ∙ (before_next doors d.slots n at u ∙ ap (λ (z : Door). z.slots) same)
width_is (d ∷ doors) width least n at (suc number) door r e l u =
    let low = and_parts (nat_le least d.at) (rises_from (d.at + 1) doors) r in
    let more = not_below doors (d.at + 1) number door low.1 e in
    begun d doors width at (omega arith) ∙ width_is doors d.slots (d.at + 1) n at number door low.1 e l u

pub width_most : (doors : List Door) (width most at : ℕ) → width ≤ most →
    ((k : ℕ) (door : Door) → slice_get doors k ≡ Some door → door.slots ≤ most) → width_from width doors at ≤ most
width_most [] width most at l f = l
width_most (d ∷ doors) width most at l f =
    by_test (nat_le d.at at) (width_most doors d.slots most at (f 0 d refl) (λ k door e. f (suc k) door e))
  where
    by_test : (b : Bool) → width_from d.slots doors at ≤ most → (if b then width_from d.slots doors at else width) ≤ most
    by_test true m = m
    by_test false m = l
