-- Ops at places.
use Rattle.std.proofs.Common.{◌≡◌, ℕ, ◌+◌, List, [], ◌∷◌, ◌++◌, length, Some, subst, arith}
use Rattle.std.specs.Prelude.{slice_get}
use Rattle.handler_code.specs.declared.code.OpCode.{OpCode}
use Rattle.handler_code.specs.declared.code.OpCode.TheVariants as op
use Rattle.handler_code.specs.declared.code.Code.{Code}
use Rattle.handler_code.specs.declared.code.Rest.{Rest}
use Rattle.handler_code.specs.Live.{HasOp}

-- the ops stand at this place
abbrev pub HasAt : List OpCode → ℕ → List OpCode → Type 0
HasAt ops at [] = Unit {0}
HasAt ops at (o ∷ os) = HasOp ops at o × HasAt ops (at + 1) os

-- a rest begins right after its one `Suspend`
abbrev pub RestsFollow : Code → Type 0
RestsFollow code = (at state r : ℕ) → HasOp code.ops at (op.Suspend state r) →
    (rest : Rest) × (slice_get code.rests r ≡ Some rest) × (rest.at ≡ at + 1)

pub has_front : (ops : List OpCode) (at : ℕ) (a b : List OpCode) → HasAt ops at (a ++ b) → HasAt ops at a
has_front ops at [] b h = tt
has_front ops at (o ∷ a) b h = (h.0, has_front ops (at + 1) a b h.1)

pub has_back : (ops : List OpCode) (at : ℕ) (a b : List OpCode) → HasAt ops at (a ++ b) → HasAt ops (at + length a) b
has_back ops at [] b h = let e : at ≡ at + 0 = omega arith in subst (λ n. HasAt ops n b) e h
has_back ops at (o ∷ a) b h =
    let e : at + 1 + length a ≡ at + length (o ∷ a) = omega arith in
    subst (λ n. HasAt ops n b) e (has_back ops (at + 1) a b h.1)
