-- Doors and rests of compiled code fit it.
use Rattle.std.proofs.Common.{◌≡◌, ◌∙◌, ℕ, zero, suc, ◌+◌, ◌<◌, ◌≤◌, Bool, true, List, [], ◌∷◌, ◌++◌, length, length-append}
use Rattle.std.proofs.Common.{Some, refl, ap, subst, arith}
use Rattle.std.specs.Prelude.{find, get_or, slice_get, Contains}
use Rattle.std.specs.List.{list_all}
use Rattle.std.proofs.lemmas.Bool.{eq-eqb}
use Rattle.teapot_tree.specs.declared.protocol.Handler.{Handler}
use Rattle.teapot_tree.specs.declared.protocol.Protocol.{Protocol}
use Rattle.teapot_tree.specs.Bodies.{body_of}
use Rattle.teapot_tree.specs.Parts.{loops}
use Rattle.teapot_tree.specs.Rules.{IsAccepted}
use Rattle.teapot_tree.proofs.Iso.{tree-body}
use Rattle.teapot_meaning.proofs.Found.{both}
use Rattle.handler_code.specs.declared.code.Code.{Code}
use Rattle.handler_code.specs.declared.code.Door.{Door}
use Rattle.handler_code.specs.declared.code.OpCode.TheVariants as op
use Rattle.handler_code.specs.Doors.{handlers_at, kind_of, same_kind}
use Rattle.code_walks.specs.Parts.{handler_of}
use Rattle.code_rules.specs.Structure.{begins, has_slots, is_door_of, is_rest_of, is_structured, rises_from, slot_count}
use Rattle.compiled_meaning.specs.Compiled.{code_of, loops_in, rests_in}
use Rattle.compiled_meaning.specs.Whole.{Entry, IsCode, doors_from, entries_code, entries_of}
use Rattle.compiled_rules.proofs.Doorways.{all_declared, found_once, is_declared, once}
use Rattle.compiled_rules.proofs.Facts.{fin_there, has_handler, has_state, no_each, slots_are}
use Rattle.compiled_rules.proofs.Handled.{Handled, body_code, handled, names_of}
use Rattle.compiled_rules.proofs.Looping.{has_loops}
use Rattle.compiled_rules.proofs.Resting.{is_rest_here}
use Rattle.compiled_rules.proofs.Spans.{le_true, lt_true}

all_get : {X : Type 0} (f : X → Bool) (xs : List X) → ((i : ℕ) (x : X) → slice_get xs i ≡ Some x → f x ≡ true) →
    list_all f xs ≡ true
all_get f [] g = refl
all_get f (x ∷ xs) g = both _ _ (g 0 x refl) (all_get f xs (λ i y e. g (suc i) y e))

begins_well : (p : Protocol) (entries : List Entry) → begins (doors_from p 0 0 entries) (length (entries_code p entries)) ≡ true
begins_well p [] = refl
begins_well p (d ∷ entries) = refl

rises : (p : Protocol) (entries : List Entry) (least at r : ℕ) → least ≤ at → rises_from least (doors_from p at r entries) ≡ true
rises p [] least at r l = refl
rises p (d ∷ entries) least at r l =
    let body = body_code p d at r in
    let c = body ++ op.Done ∷ [] in
    both _ _ (le_true least at l) (rises p entries (at + 1) (at + length c) (r + rests_in c)
    (omega (arith, length-append body (op.Done ∷ []))))

-- a member, by its place
place_of : {X : Type 0} (xs : List X) (x : X) → Contains xs x → (i : ℕ) × (slice_get xs i ≡ Some x)
place_of {X = X} xs x c = by_place xs c.0 c.1 c.2
  where
    by_place : (ys : List X) (k : ℕ) → k < length ys → get_or ys k x ≡ x → (i : ℕ) × (slice_get ys i ≡ Some x)
    by_place [] k lt e = absurd (omega arith)
    by_place (y ∷ ys) zero lt e = (zero, ap (λ z. Some z) e)
    by_place (y ∷ ys) (suc k) lt e = let m = by_place ys k (omega arith) e in (suc m.0, m.1)

module _ (p : Protocol) (code : Code) (a : IsAccepted p) (c : IsCode p code) where
  module _ (number : ℕ) (door : Door) (x : Handled p code number door) where
    abbrev handler : Handler
    handler = x.entry.handler

    pub handler_is : handler_of p door ≡ Some handler
    handler_is =
        let i = has_state p code a c number door x in
        let j = has_handler p code a c number door x in
        let o = x.of in
        let state : slice_get p.states door.state ≡ Some x.entry.state = ap (slice_get p.states) x.state ∙ o.is_state in
        let kind : door.on ≡ kind_of p handler.on = ap (λ (d : Door). d.on) x.on in
        let at = place_of x.entry.state.handlers handler j in
        let found = found_once p x.entry.state.handlers handler at.0 (once p a x.entry.state i)
        (all_declared p a x.entry.state i) (is_declared p a x.entry.state handler i j) at.1 in
        ap (λ s. find (λ h. same_kind (kind_of p h.on) door.on) (handlers_at s)) state
        ∙ (ap (λ k. find (λ h. same_kind (kind_of p h.on) k) x.entry.state.handlers) kind ∙ found)

    pub slots_counted : door.slots ≡ slot_count x.entry.state handler
    slots_counted =
        let names = names_of x.entry in
        let many = has_loops p names (body_of handler.body) (no_each p code a c number door x) door.at x.rest (length names) in
        let count : loops_in (body_code p x.entry door.at x.rest) ≡ loops (body_of handler.body) =
        subst (λ ss. loops_in (code_of p names ss door.at x.rest (length names)) ≡ loops (body_of handler.body))
        (tree-body handler.body) many in
        slots_are p code a c number door x ∙ ap (λ n. length names + n) count

    door_well : is_door_of p (length code.ops) door ≡ true
    door_well =
        let o = x.of in
        let state : slice_get p.states door.state ≡ Some x.entry.state = ap (slice_get p.states) x.state ∙ o.is_state in
        let slots : has_slots door.slots (slice_get p.states door.state) (handler_of p door) ≡ true =
        ap (λ s. has_slots door.slots s (handler_of p door)) state
        ∙ (ap (has_slots door.slots (Some x.entry.state)) handler_is
        ∙ eq-eqb door.slots (slot_count x.entry.state handler) slots_counted) in
        let last = fin_there p code a c number door x in
        let fin = x.fin-is in
        both _ _ slots (lt_true door.at (length code.ops) (omega arith))

  pub structured : is_structured p code ≡ true
  structured =
      let first : begins code.doors (length code.ops) ≡ true = ap (λ d. begins d (length code.ops)) c.doors
      ∙ (ap (λ o. begins (doors_from p 0 0 (entries_of p)) (length o)) c.ops ∙ begins_well p (entries_of p)) in
      let rising : rises_from 0 code.doors ≡ true = ap (rises_from 0) c.doors ∙ rises p (entries_of p) 0 0 0 (omega arith) in
      let doors = all_get (is_door_of p (length code.ops)) code.doors (λ i d e. door_well i d (handled p code c i d e)) in
      let rests = all_get (is_rest_of code.doors (length code.ops)) code.rests (λ i r e. is_rest_here p code a c i r e) in
      both _ _ first (both _ _ rising (both _ _ doors rests))
