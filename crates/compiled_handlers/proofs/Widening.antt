-- Records with all 21 slots stand for what they stand for with their own.
use Rattle.std.proofs.Common.{◌≡◌, ◌∙◌, ℕ, zero, suc, ◌-◌, List, [], ◌∷◌, ◌++◌, Option, length, length-append, refl, ap, arith}
use Rattle.std.specs.Prelude.{map, replicate}
use Rattle.tw_base.specs.declared.value.Value.{Value}
use Rattle.tw_base.specs.declared.value.Value.TheVariants as v
use Rattle.teapot_tree.specs.declared.protocol.Protocol.{Protocol}
use Rattle.teapot_meaning.specs.Steps.{set_of}
use Rattle.teapot_meaning.specs.declared.state.Bound.{Bound}
use Rattle.teapot_meaning.specs.declared.state.Cont.{Cont}
use Rattle.teapot_meaning.specs.declared.state.StateVal.{StateVal}
use Rattle.handler_code.specs.declared.code.Code.{Code}
use Rattle.handler_code.specs.declared.code.OpCode.{OpCode}
use Rattle.handler_code.specs.Doors.{filled}
use Rattle.handler_code.specs.Machine.{Saved, value_at}
use Rattle.compiled_meaning.specs.Follows.{Loop}
use Rattle.compiled_meaning.specs.Stands.{Agrees, ChainStands, HoldsSets, StateStands, none, some}
use Rattle.handler_vm.specs.Chains.{widened}

value_zeros : (more k : ℕ) → value_at (replicate more (v.Int 0)) k ≡ v.Int 0
value_zeros zero k = refl
value_zeros (suc more) zero = refl
value_zeros (suc more) (suc k) = value_zeros more k

-- a slot past the last one holds 0
value_padded : (xs : List Value) (more k : ℕ) → value_at (xs ++ replicate more (v.Int 0)) k ≡ value_at xs k
value_padded [] more k = value_zeros more k
value_padded (x ∷ xs) more zero = refl
value_padded (x ∷ xs) more (suc k) = value_padded xs more k

sets_padded : (ops : List OpCode) (at : ℕ) (xs : List Value) (more : ℕ) (loops : List Loop) → HoldsSets ops at xs loops →
    HoldsSets ops at (xs ++ replicate more (v.Int 0)) loops
sets_padded ops at xs more [] h = tt
sets_padded ops at xs more (l ∷ loops) h =
    (λ r. ap set_of (value_padded xs more l.slot) ∙ h.0 r, sets_padded ops at xs more loops h.1)

agrees_filled : (ops : List OpCode) (width at slots : ℕ) (xs : List Value) (vars : List Bound) (loops : List Loop) →
    Agrees ops width at xs vars loops → Agrees ops width at (filled slots xs) vars loops
agrees_filled ops width at slots xs vars loops g = record {
  sized = omega (arith, g.sized, length-append xs (replicate (slots - length xs) (v.Int 0)));
  fits = g.fits;
  nested = g.nested;
  live = λ k lt r. value_padded xs (slots - length xs) k ∙ g.live k lt r;
  sets = sets_padded ops at xs (slots - length xs) loops g.sets;
}

pub chain_widened : (p : Protocol) (code : Code) {chain : List Saved} {k : Option Cont} → ChainStands p code chain k →
    ChainStands p code (map widened chain) k
chain_widened p code none = none
chain_widened p code (some {first = first} {rest = rest} {width = width} {loops = loops} h follows agrees came state args older) =
    some h follows (agrees_filled code.ops width rest.at 21 first.values _ loops agrees) came state args
    (chain_widened p code older)

pub state_widened : (p : Protocol) (code : Code) (state : ℕ) (args : List Value) (chain : List Saved) (x : StateVal) →
    StateStands p code state args chain x → StateStands p code state args (map widened chain) x
state_widened p code state args chain x s =
    record { same_state = s.same_state; same_args = s.same_args; conts = chain_widened p code s.conts }
