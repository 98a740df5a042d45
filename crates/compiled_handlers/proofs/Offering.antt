-- The code of an accepted protocol has room in the arrays of a run.
use Rattle.std.proofs.Common.{◌≡◌, ◌∙◌, ℕ, ◌<◌, ◌≤◌, ◌⊎◌, true, length, Option, Some, sym, subst, add-one, arith, inl, inr}
use Rattle.std.specs.Prelude.{nat_lt, slice_get}
use Rattle.std.proofs.lemmas.Bool.{and_parts, ltb-true}
use Rattle.std.proofs.lemmas.Option.{slice_get_within}
use Rattle.teapot_tree.specs.declared.protocol.Protocol.{Protocol}
use Rattle.teapot_tree.specs.Rules.{IsAccepted}
use Rattle.handler_code.specs.declared.code.Code.{Code}
use Rattle.handler_code.specs.declared.code.Door.{Door}
use Rattle.handler_code.specs.declared.code.OpCode.{OpCode}
use Rattle.handler_code.specs.declared.code.OpCode.TheVariants as op
use Rattle.handler_code.specs.declared.code.Rest.{Rest}
use Rattle.handler_code.specs.Live.{HasOp, LeadsTo}
use Rattle.code_walks.specs.Parts.{place_or}
use Rattle.code_rules.specs.Safety.{depth_in}
use Rattle.code_rules.specs.Structure.{begins, rises_from}
use Rattle.code_rules.proofs.Depthly.{Home, home}
use Rattle.code_rules.proofs.Safely.{InPart, fitting}
use Rattle.handler_code.specs.Stacks.{HasDepth}
use Rattle.handler_vm.specs.Room.{HasPlaces, HasRoom, IsThere}
use Rattle.compiled_meaning.specs.Whole.{IsCode}
use Rattle.compiled_rules.proofs.Facts.{fin_there, is_neat, rests_stand}
use Rattle.compiled_rules.proofs.Handled.{Handled, handled, names_of}
use Rattle.compiled_rules.proofs.Neat.{Fits, Neat}
use Rattle.compiled_rules.proofs.Keeping.{keeps}
use Rattle.compiled_rules.proofs.Resting.{is_rest_here, leads_inside, op_fits}
use Rattle.compiled_rules.proofs.Rooming.{needs_little, slots_few}
use Rattle.compiled_rules.proofs.Structuring.{structured}
use Rattle.compiled_handlers.proofs.Widths.{width_from, width_is, width_most}

module _ (p : Protocol) (code : Code) (a : IsAccepted p) (c : IsCode p code) where
  stack : HasDepth p code (depth_in p code)
  stack = let little = needs_little p code a c in little.depths

  -- ---- the ops of one handler

  module _ (number : ℕ) (door : Door) (x : Handled p code number door) where
    neat_here : Neat p (names_of x.entry) code.ops door.at x.fin (length (names_of x.entry)) door.slots
    neat_here = is_neat p code a c number door x

    abbrev FitsHere : ℕ → OpCode → Type 0
    FitsHere at o = Fits p (names_of x.entry) code.ops door.at x.fin (length (names_of x.entry)) door.slots at o

    fits_there : (at : ℕ) (o : OpCode) → length (names_of x.entry) ≤ door.slots → HasOp code.ops at o → FitsHere at o →
        IsThere p code door.slots o
    fits_there at (op.Get k) n has f = omega arith
    fits_there at (op.GetInfo k) n has f = f
    fits_there at (op.Put k) n has (inl f) = omega arith
    fits_there at (op.Put k) n has (inr f) = f.1
    fits_there at (op.PutInfo k) n has f = f
    fits_there at (op.Send m) n has f = f
    fits_there at (op.SendAll m) n has f = f
    fits_there at (op.Goto s) n has f = f
    fits_there at (op.Suspend s r) n has f =
        let rest = rests_stand p code a c at s r has in (f, slice_get_within code.rests r rest.0 rest.1)
    fits_there at (op.EachNext k h to) n has f = let variable = f.variable in (omega arith, f.set_to)
    fits_there at _ n has f = tt

    last : (at : ℕ) → InPart code number door at → at ≤ x.fin
    last at i = let end = x.end in let before = i.before in omega arith

    there_in : (at : ℕ) (o : OpCode) → InPart code number door at → HasOp code.ops at o → IsThere p code door.slots o
    there_in at o i has = by_side (op_fits p code a c number door x at o i.from (last at i) has)
      where
        by_side : ((at < x.fin) × FitsHere at o) ⊎ (o ≡ op.Done) → IsThere p code door.slots o
        by_side (inl f) = let n = neat_here in fits_there at o n.grow has f.1
        by_side (inr f) = subst (IsThere p code door.slots) (sym f) tt

    leads_in : (at next : ℕ) (o : OpCode) (written : Option ℕ) → InPart code number door at → HasOp code.ops at o →
        LeadsTo o at next written → (door.at ≤ next) × (next ≤ x.fin)
    leads_in at next o written i has l = by_side (op_fits p code a c number door x at o i.from (last at i) has)
      where
        by_side : ((at < x.fin) × FitsHere at o) ⊎ (o ≡ op.Done) → (door.at ≤ next) × (next ≤ x.fin)
        by_side (inl f) = leads_inside p code a c number door x at next o written i.from f.0 f.1 l
        by_side (inr f) = absurd (subst (λ z. LeadsTo z at next written) f l)

  -- ---- all places

  rising : rises_from 0 code.doors ≡ true
  rising = (and_parts (rises_from 0 code.doors) _ (and_parts (begins code.doors (length code.ops)) _ (structured p code a c)).1).0

  home_of : (at : ℕ) → at < length code.ops → Home code at
  home_of at u = home p code (fitting p code (keeps p code a c)) at u

  width_in : (number : ℕ) (door : Door) (at : ℕ) → InPart code number door at → width_from 0 code.doors at ≡ door.slots
  width_in number door at i =
      width_is code.doors 0 0 (length code.ops) at number door rising i.is_door i.from
      (subst (λ k. at < place_or (slice_get code.doors k) (length code.ops)) (add-one number) i.before)

  door_place : (number : ℕ) (door : Door) → slice_get code.doors number ≡ Some door →
      (door.at < length code.ops) × (width_from 0 code.doors door.at ≡ door.slots)
  door_place number door e =
      let x = handled p code c number door e in
      let last = fin_there p code a c number door x in
      let fin = x.fin-is in
      let end = x.end in
      let i : InPart code number door door.at = record { is_door = e; from = omega arith; before = omega arith } in
      (omega arith, width_in number door door.at i)

  rest_place : (number : ℕ) (rest : Rest) → slice_get code.rests number ≡ Some rest → rest.at < length code.ops
  rest_place number rest e =
      ltb-true rest.at (length code.ops) (and_parts (nat_lt rest.at (length code.ops)) _
      (is_rest_here p code a c number rest e)).0

  op_there : (at : ℕ) (o : OpCode) → HasOp code.ops at o → IsThere p code (width_from 0 code.doors at) o
  op_there at o has =
      let h = home_of at (slice_get_within code.ops at o has) in
      let i = h.inside in
      let x = handled p code c h.number h.door i.is_door in
      subst (λ n. IsThere p code n o) (sym (width_in h.number h.door at i)) (there_in h.number h.door x at o i has)

  op_leads : (at next : ℕ) (o : OpCode) (written : Option ℕ) → HasOp code.ops at o → LeadsTo o at next written →
      (next < length code.ops) × (width_from 0 code.doors next ≡ width_from 0 code.doors at)
  op_leads at next o written has l =
      let h = home_of at (slice_get_within code.ops at o has) in
      let i = h.inside in
      let x = handled p code c h.number h.door i.is_door in
      let last = fin_there p code a c h.number h.door x in
      let end = x.end in
      let led = leads_in h.number h.door x at next o written i has l in
      let from = led.0 in
      let upto = led.1 in
      let j : InPart code h.number h.door next = record { is_door = i.is_door; from = from; before = omega arith } in
      (omega arith, width_in h.number h.door next j ∙ sym (width_in h.number h.door at i))

  places : HasPlaces p code (width_from 0 code.doors)
  places = record {
    doors = door_place;
    rests = rest_place;
    there = op_there;
    leads = op_leads;
    most = λ at. width_most code.doors 0 21 at (omega arith) (slots_few p code a c);
  }

  pub has_room : HasRoom p code
  has_room = record { depth = depth_in p code; stack = stack; width = width_from 0 code.doors; places = places }
