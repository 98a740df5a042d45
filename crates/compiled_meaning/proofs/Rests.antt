-- Rests are numbered in the order of their places.
use Rattle.std.proofs.Common.{◌≡◌, ℕ, zero, suc, ◌+◌, List, [], ◌∷◌, ◌++◌, Some, refl, sym, ap, subst, arith, ◌∙◌}
use Rattle.std.specs.Prelude.{map, slice_get}
use Rattle.handler_code.specs.declared.code.Code.{Code}
use Rattle.handler_code.specs.declared.code.OpCode.{OpCode}
use Rattle.handler_code.specs.declared.code.OpCode.TheVariants as op
use Rattle.handler_code.specs.declared.code.Rest.{Rest}
use Rattle.handler_code.specs.Live.{HasOp}
use Rattle.compiled_meaning.specs.Compiled.{rests_by, rests_in}
use Rattle.compiled_meaning.proofs.Places.{RestsFollow}
use Rattle.compiled_meaning.specs.Whole.{rest_places}

abbrev pub IsNumber : OpCode → ℕ → Type 0
IsNumber (op.Suspend s n) r = n ≡ r
IsNumber _ r = Unit {0}

-- the rests of the ops have the numbers from this one on
abbrev pub NumberedFrom : ℕ → List OpCode → Type 0
NumberedFrom r [] = Unit {0}
NumberedFrom r (o ∷ ops) = IsNumber o r × NumberedFrom (rests_by o r) ops

rests_by-add : (o : OpCode) (a b : ℕ) → rests_by o (a + b) ≡ rests_by o a + b
rests_by-add (op.Suspend s n) a b = omega arith
rests_by-add _ a b = refl

pub rests_in-append : (a b : List OpCode) → rests_in (a ++ b) ≡ rests_in a + rests_in b
rests_in-append [] b = omega arith
rests_in-append (o ∷ a) b = ap (rests_by o) (rests_in-append a b) ∙ rests_by-add o (rests_in a) (rests_in b)

rests_swap : (o : OpCode) (r n : ℕ) → rests_by o r + n ≡ r + rests_by o n
rests_swap (op.Suspend s k) r n = omega arith
rests_swap _ r n = refl

pub numbered-append : (a b : List OpCode) (r : ℕ) → NumberedFrom r a → NumberedFrom (r + rests_in a) b → NumberedFrom r (a ++ b)
numbered-append [] b r h k = let e : r + 0 ≡ r = omega arith in subst (λ n. NumberedFrom n b) e k
numbered-append (o ∷ a) b r h k =
    (h.0, numbered-append a b (rests_by o r) h.1 (subst (λ n. NumberedFrom n b) (sym (rests_swap o r (rests_in a))) k))

-- the place of a rest
pub record Found (ops : List OpCode) (at place r n : ℕ) : Type 0 where
  index : ℕ
  number : n ≡ r + index
  stands : slice_get (rest_places at ops) index ≡ Some (place + 1)

found_first : (o : OpCode) (ops : List OpCode) (at r s n : ℕ) → o ≡ op.Suspend s n → IsNumber o r → Found (o ∷ ops) at at r n
found_first o ops at r s n e h =
    let h' : n ≡ r = subst (λ q. IsNumber q r) e h in
    subst (λ q. Found (q ∷ ops) at at r n) (sym e) (record { index = 0; number = omega (arith, h'); stands = refl })

found_later : (o : OpCode) (ops : List OpCode) (at place r n : ℕ) → Found ops (at + 1) place (rests_by o r) n →
    Found (o ∷ ops) at place r n
found_later (op.Suspend s k) ops at place r n f =
    record { index = suc f.index; number = omega (arith, f.number); stands = f.stands }
found_later _ ops at place r n f = record { index = f.index; number = f.number; stands = f.stands }

pub found : (ops : List OpCode) (at i r s n : ℕ) → NumberedFrom r ops → HasOp ops i (op.Suspend s n) → Found ops at (at + i) r n
found [] at i r s n h e = cc
found (o ∷ ops) at zero r s n h e =
    let same : o ≡ op.Suspend s n = cc in
    let place : at ≡ at + zero = omega arith in
    subst (λ q. Found (o ∷ ops) at q r n) place (found_first o ops at r s n same h.0)
found (o ∷ ops) at (suc i) r s n h e =
    let place : at + 1 + i ≡ at + suc i = omega arith in
    subst (λ q. Found (o ∷ ops) at q r n) place (found_later o ops at (at + 1 + i) r n
    (found ops (at + 1) i (rests_by o r) s n h.1 e))

in_map : (rests : List Rest) (i x : ℕ) → slice_get (map (λ r. r.at) rests) i ≡ Some x →
    (rest : Rest) × (slice_get rests i ≡ Some rest) × (rest.at ≡ x)
in_map [] i x e = cc
in_map (r ∷ rests) zero x e = (r, refl, (cc))
in_map (r ∷ rests) (suc i) x e = in_map rests i x e

-- numbered rests follow their `Suspend`s
pub rests_follow : (code : Code) → NumberedFrom 0 code.ops → map (λ r. r.at) code.rests ≡ rest_places 0 code.ops →
    RestsFollow code
rests_follow code h e at s n has =
    let f = found code.ops 0 at 0 s n h has in
    let same : f.index ≡ n = omega (arith, f.number) in
    let stands : slice_get (map (λ r. r.at) code.rests) n ≡ Some (0 + at + 1) = ap (λ l. slice_get l n) e
    ∙ subst (λ i. slice_get (rest_places 0 code.ops) i ≡ Some (0 + at + 1)) same f.stands in
    let x = in_map code.rests n (0 + at + 1) stands in
    let place : 0 + at + 1 ≡ at + 1 = omega arith in
    (x.0, x.1, x.2 ∙ place)
