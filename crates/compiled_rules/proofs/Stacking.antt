-- The stack serves the code of an accepted protocol at each place.
use Rattle.std.proofs.Common.{◌≡◌, ◌∙◌, ℕ, suc, ◌+◌, ◌-◌, ◌<◌, ◌≤◌, true, false, Some, ap, arith, inl, inr}
use Rattle.teapot_tree.specs.declared.protocol.Protocol.{Protocol}
use Rattle.teapot_tree.specs.Rules.{IsAccepted}
use Rattle.teapot_meaning.proofs.Found.{not_false}
use Rattle.handler_code.specs.declared.code.Code.{Code}
use Rattle.handler_code.specs.declared.code.OpCode.{OpCode}
use Rattle.handler_code.specs.declared.code.OpCode.TheVariants as op
use Rattle.handler_code.specs.Live.{HasOp}
use Rattle.code_walks.specs.Parts.{AtOp, end_of, op_at, part_of}
use Rattle.code_walks.specs.Stacks.{BreaksStack, depth_after, depth_at, is_served, target}
use Rattle.compiled_meaning.specs.Whole.{IsCode}
use Rattle.compiled_rules.proofs.Depths.{Clears, serves}
use Rattle.compiled_rules.proofs.Facts.{each_op, holds, op_is}
use Rattle.compiled_rules.proofs.Handled.{Handled, handled}

module _ (p : Protocol) (code : Code) (a : IsAccepted p) (c : IsCode p code) where
  -- how many values there are before a place of the handler that begins at this one
  abbrev pub before : ℕ → ℕ → ℕ
  before from at = depth_at p code from (at - from)

  pub one_on : (from at : ℕ) (o : OpCode) → from ≤ at → HasOp code.ops at o →
      before from (at + 1) ≡ depth_after p o (before from at)
  one_on from at o l has =
      let next : at + 1 - from ≡ suc (at - from) = omega arith in
      let place : from + (at - from) ≡ at = omega arith in
      let is : op_at code (from + (at - from)) ≡ o = ap (op_at code) place ∙ op_is code at o has in
      ap (depth_at p code from) next ∙ ap (λ q. depth_after p q (before from at)) is

  pub first_on : (from : ℕ) → before from from ≡ 0
  first_on from = let none : from - from ≡ 0 = omega arith in ap (depth_at p code from) none

  module _ (number : ℕ) (door : _) (x : Handled p code number door) where
    pub clears : Clears p a.tree x.entry.state x.entry.handler code.ops door.at (before door.at) (one_on door.at) door.at x.fin
    clears =
        holds p code a c number door x _ (serves p a.tree x.entry.state x.entry.handler code.ops door.at (before door.at)
        (one_on door.at)) (omega arith) (first_on door.at)

    -- an op is served, and leads to where there are no values
    pub record IsWell (at : ℕ) (o : OpCode) : Type 0 where
      pub served : is_served p o (before door.at at) ≡ true
      pub leads : (to : ℕ) → target o ≡ Some to → before door.at to ≡ 0

    pub is_well : (at : ℕ) → door.at ≤ at → at < end_of code number → IsWell at (op_at code at)
    is_well at l u =
        let all = clears in
        each_op p code a c number door x (IsWell at) at l u
        (λ e. let none : before door.at at ≡ 0 = ap (before door.at) e
        ∙ all.clear in record { served = ap (is_served p op.Done) none; leads = λ to f. absurd (cc) })
        (λ lt has. let y = all.over at (op_at code at) l lt has in record { served = y.served; leads = y.leads })

    stack_kept : (at : ℕ) → door.at ≤ at → at < end_of code number → BreaksStack p code (part_of code number door) at → ⊥
    stack_kept at l u (inl e) =
        let ok = is_well at l u in
        let served = ok.served in
        let bad : is_served p (op_at code at) (before door.at at) ≡ false = not_false _ e in
        cc
    stack_kept at l u (inr e) =
        let ok = is_well e.at e.from e.before in
        let none = ok.leads at e.leads in
        let deep = e.deep in
        omega arith

  pub keeps_stack : (at : ℕ) → AtOp code (BreaksStack p code) at → ⊥
  keeps_stack at w = let i = w.within in stack_kept w.number w.door
      (handled p code c w.number w.door w.is_door) at i.from i.before i.holds
