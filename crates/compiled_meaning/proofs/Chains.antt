-- Records of suspensions.
use Rattle.std.proofs.Common.{◌≡◌, ℕ, zero, suc, ◌+◌, List, [], ◌∷◌, length, Option, Some, Bool, true, false, refl, sym, ap}
use Rattle.std.proofs.Common.{subst, arith, ◌∙◌}
use Rattle.std.specs.Prelude.{if◌then◌else◌, slice_get}
use Rattle.tw_base.specs.declared.value.Value.{Value}
use Rattle.tw_base.specs.declared.value.Value.TheVariants as v
use Rattle.teapot_tree.specs.declared.protocol.Protocol.{Protocol}
use Rattle.teapot_meaning.specs.declared.state.Bound.{Bound}
use Rattle.teapot_meaning.specs.declared.state.Cont.{Cont, out-Cont, roll-Cont, out-roll-Cont}
use Rattle.teapot_meaning.specs.declared.state.Cont.TheOpen.{Cont-F, StateVal-F}
use Rattle.teapot_meaning.specs.declared.state.StateVal.{StateVal, out-StateVal, roll-StateVal, out-roll-StateVal}
use Rattle.teapot_meaning.specs.Depth.{depth}
use Rattle.teapot_meaning.specs.Steps.{set_of}
use Rattle.teapot_meaning.proofs.Rests.{cont_depth, depth-is}
use Rattle.handler_code.specs.declared.code.Code.{Code}
use Rattle.handler_code.specs.declared.code.OpCode.{OpCode}
use Rattle.handler_code.specs.declared.code.Rest.{Rest}
use Rattle.handler_code.specs.Live.{ReadsFirst}
use Rattle.compiled_meaning.specs.Follows.{Follows, Loop}
use Rattle.handler_code.specs.Machine.{Saved, is_live, live_values, value_at}
use Rattle.compiled_meaning.specs.Stands.{Agrees, ChainStands, none, some, StateStands, names_of}
use Rattle.compiled_meaning.proofs.Exprs.{sets_keep}

-- the depth of a state is the number of records
pub depth-chain : (p : Protocol) (code : Code) {chain : List Saved} {o : Option Cont} → ChainStands p code chain o →
    cont_depth o ≡ length chain
depth-chain p code none = refl
depth-chain p code (some {k = k} h f g i a b c) =
    let n = depth-is (out-Cont k).saved in
    let m = depth-chain p code c in
    omega arith

pub depth-length : (p : Protocol) (code : Code) (chain : List Saved) (s : StateVal) →
    ChainStands p code chain (out-StateVal s).cont → depth s ≡ length chain
depth-length p code chain s h = depth-is s ∙ depth-chain p code h

-- a state of these parts
pub rolled : (p : Protocol) (code : Code) (chain : List Saved) (d : StateVal-F Cont StateVal) →
    ChainStands p code chain d.cont → StateStands p code d.state d.args chain (roll-StateVal d)
rolled p code chain d h = record {
  same_state = ap (λ y. y.state) (sym (out-roll-StateVal d));
  same_args = ap (λ y. y.args) (sym (out-roll-StateVal d));
  conts = subst (λ y. ChainStands p code chain y.cont) (sym (out-roll-StateVal d)) h;
}

-- a record of these parts
record FirstStands (p : Protocol) (code : Code) (width : ℕ) (loops : List Loop) (first : Saved) (rest : Rest)
    (chain : List Saved) (k : Cont-F Cont StateVal) : Type 0 where
  follows : Follows p (names_of k.vars) width code rest.at k.rest loops
  vars : Agrees code.ops width rest.at first.values k.vars loops
  same_came : first.came ≡ k.came
  same_state : first.state ≡ (out-StateVal k.saved).state
  same_args : first.args ≡ (out-StateVal k.saved).args
  conts : ChainStands p code chain (out-StateVal k.saved).cont

pub chained : (p : Protocol) (code : Code) (width : ℕ) (loops : List Loop) (first : Saved) (rest : Rest) (chain : List Saved)
    (k : Cont-F Cont StateVal) → slice_get code.rests first.rest ≡ Some rest →
    Follows p (names_of k.vars) width code rest.at k.rest loops → Agrees code.ops width rest.at first.values k.vars loops →
    first.came ≡ k.came → StateStands p code first.state first.args chain k.saved →
    ChainStands p code (first ∷ chain) (Some (roll-Cont k))
chained p code width loops first rest chain k h f g i s =
    let here : FirstStands p code width loops first rest chain k =
    record { follows = f; vars = g; same_came = i; same_state = s.same_state; same_args = s.same_args; conts = s.conts } in
    let there = subst (FirstStands p code width loops first rest chain) (sym (out-roll-Cont k)) here in
    some h there.follows there.vars there.same_came there.same_state there.same_args there.conts

-- the values that are saved
length_live : (live : ℕ → Bool) (b : ℕ) (xs : List Value) → length (live_values live b xs) ≡ length xs
length_live live b [] = refl
length_live live b (x ∷ xs) = ap suc (length_live live (b + 1) xs)

value_live : (live : ℕ → Bool) (b k : ℕ) (xs : List Value) → live (b + k) ≡ true →
    value_at (live_values live b xs) k ≡ value_at xs k
value_live live b k [] h = refl
value_live live b zero (x ∷ xs) h =
    let z : b + zero ≡ b = omega arith in
    chosen (live b) (sym (ap live z) ∙ h)
  where
    chosen : (t : Bool) → t ≡ true → (if t then x else v.Int 0) ≡ x
    chosen true e = refl
    chosen false e = cc
value_live live b (suc k) (x ∷ xs) h =
    let z : b + 1 + k ≡ b + suc k = omega arith in
    value_live live (b + 1) k xs (ap live z ∙ h)

pub saved_agree : (ops : List OpCode) (width : ℕ) (rest : Rest) (slots : List Value) (vars : List Bound) (loops : List Loop) →
    ((k : ℕ) → ReadsFirst ops rest.at k → is_live rest k ≡ true) → Agrees ops width rest.at slots vars loops →
    Agrees ops width rest.at (live_values (is_live rest) 0 slots) vars loops
saved_agree ops width rest slots vars loops lives g =
    record {
      sized = omega (arith, g.sized, length_live (is_live rest) 0 slots);
      fits = g.fits;
      nested = g.nested;
      live = λ k lt r. same k r ∙ g.live k lt r;
      sets = sets_keep ops rest.at rest.at slots (live_values (is_live rest) 0 slots) (names_of vars) width loops g.nested
          (λ slot set a b f r. ap set_of (same slot r) ∙ f r) g.sets;
    }
  where
    same : (k : ℕ) → ReadsFirst ops rest.at k → value_at (live_values (is_live rest) 0 slots) k ≡ value_at slots k
    same k r = value_live (is_live rest) 0 k slots (let z : 0 + k ≡ k = omega arith in ap (is_live rest) z ∙ lives k r)
