-- What ops name is in range, and a handler ends with Done.
use Rattle.std.proofs.Common.{◌≡◌, ℕ, ◌+◌, ◌<◌, ◌≤◌, true, false, length, refl, arith, inl, inr}
use Rattle.std.specs.Prelude.{◌==◌}
use Rattle.std.proofs.lemmas.Bool.{and_parts, eqb-true}
use Rattle.std.proofs.lemmas.Option.{slice_get_within}
use Rattle.teapot_tree.specs.declared.protocol.Protocol.{Protocol}
use Rattle.teapot_tree.specs.Rules.{IsAccepted}
use Rattle.teapot_meaning.proofs.Found.{both, not_false}
use Rattle.handler_code.specs.declared.code.Code.{Code}
use Rattle.handler_code.specs.declared.code.OpCode.{OpCode}
use Rattle.handler_code.specs.declared.code.OpCode.TheVariants as op
use Rattle.handler_code.specs.Live.{HasOp}
use Rattle.code_walks.specs.Jumps.{ends_wrongly, is_done, is_in_range, is_out_of_range}
use Rattle.code_walks.specs.Parts.{AtOp, op_at}
use Rattle.compiled_meaning.specs.Whole.{IsCode}
use Rattle.compiled_rules.proofs.Facts.{each_op, fin_there, is_neat, rests_stand}
use Rattle.compiled_rules.proofs.Handled.{handled, names_of}
use Rattle.compiled_rules.proofs.Neat.{Fits}
use Rattle.compiled_rules.proofs.Spans.{lt_true}

module _ (p : Protocol) (code : Code) (a : IsAccepted p) (c : IsCode p code) where
  fits_range : (names : _) (lo hi slots at : ℕ) (o : OpCode) → hi < length code.ops → length names ≤ slots →
      HasOp code.ops at o → at < hi → Fits p names code.ops lo hi (length names) slots at o → is_in_range p code slots o ≡ true
  fits_range names lo hi slots at (op.Get s) u n has lt f = lt_true s slots (omega arith)
  fits_range names lo hi slots at (op.GetInfo s) u n has lt f = lt_true s (length p.infos) f
  fits_range names lo hi slots at (op.Put s) u n has lt (inl f) = lt_true s slots (omega arith)
  fits_range names lo hi slots at (op.Put s) u n has lt (inr f) = lt_true s slots f.1
  fits_range names lo hi slots at (op.PutInfo s) u n has lt f = lt_true s (length p.infos) f
  fits_range names lo hi slots at (op.Send m) u n has lt f = lt_true m (length p.messages) f
  fits_range names lo hi slots at (op.SendAll m) u n has lt f = lt_true m (length p.messages) f
  fits_range names lo hi slots at (op.Goto s) u n has lt f = lt_true s (length p.states) f
  fits_range names lo hi slots at (op.Suspend s r) u n has lt f =
      let rest = rests_stand p code a c at s r has in
      both _ _ (lt_true s (length p.states) f) (lt_true r (length code.rests) (slice_get_within code.rests r rest.0 rest.1))
  fits_range names lo hi slots at (op.Jump to) u n has lt f = let w = f.within in lt_true to (length code.ops) (omega arith)
  fits_range names lo hi slots at (op.JumpIfNot to) u n has lt f = let w = f.within in lt_true to (length code.ops) (omega arith)
  fits_range names lo hi slots at (op.JumpBack to) u n has lt f = let w = f.earlier in lt_true to (length code.ops) (omega arith)
  fits_range names lo hi slots at (op.EachNext s h to) u n has lt f =
      let variable = f.variable in
      let set = f.set_to in
      let w = f.within in
      both _ _ (lt_true s slots (omega arith)) (both _ _ (lt_true h slots set) (lt_true to (length code.ops) (omega arith)))
  fits_range names lo hi slots at _ u n has lt f = refl

  pub keeps_ranges : (at : ℕ) → AtOp code (λ part at. is_out_of_range p code part at ≡ true) at → ⊥
  keeps_ranges at w =
      let x = handled p code c w.number w.door w.is_door in
      let i = w.within in
      let neat = is_neat p code a c w.number w.door x in
      let grow = neat.grow in
      let u = fin_there p code a c w.number w.door x in
      let ok : is_in_range p code w.door.slots (op_at code at) ≡ true =
      each_op p code a c w.number w.door x (λ o. is_in_range p code w.door.slots o ≡ true) at i.from i.before (λ e. refl)
      (λ lt has. fits_range (names_of x.entry) w.door.at x.fin w.door.slots at (op_at code at) u grow has lt
      (neat.fits at (op_at code at) i.from lt has)) in
      let bad : is_in_range p code w.door.slots (op_at code at) ≡ false = not_false _ i.holds in
      cc

  pub keeps_ends : (at : ℕ) → AtOp code (λ part at. ends_wrongly code part at ≡ true) at → ⊥
  keeps_ends at w =
      let x = handled p code c w.number w.door w.is_door in
      let i = w.within in
      let parts = and_parts (at + 1 == _) _ i.holds in
      let end = x.end in
      let is = eqb-true (at + 1) _ parts.0 in
      let bad : is_done (op_at code at) ≡ false = not_false _ parts.1 in
      let ok : is_done (op_at code at) ≡ true = each_op p code a c w.number w.door x (λ o. is_done o ≡ true) at i.from i.before
      (λ e. refl) (λ lt has. absurd (omega arith)) in
      cc
