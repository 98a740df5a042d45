-- Where the code of each handler stands.
use Rattle.std.proofs.Common.{◌≡◌, ◌∙◌, ℕ, zero, suc, ◌+◌, List, [], ◌∷◌, ◌++◌, length, length-append, Some, refl, ap, sym}
use Rattle.std.proofs.Common.{subst, arith}
use Rattle.std.specs.Prelude.{map, slice_get, Contains}
use Rattle.tw_base.specs.declared.name.Name.{Name}
use Rattle.tw_base.specs.Lists.{Each}
use Rattle.teapot_tree.specs.declared.protocol.Handler.{Handler}
use Rattle.teapot_tree.specs.declared.protocol.Protocol.{Protocol}
use Rattle.teapot_tree.specs.declared.protocol.State.{State}
use Rattle.teapot_meaning.specs.Fits.{names_in}
use Rattle.teapot_meaning.proofs.Found.{each_at, slice_has}
use Rattle.handler_code.specs.declared.code.Code.{Code}
use Rattle.handler_code.specs.declared.code.Door.{Door}
use Rattle.handler_code.specs.declared.code.OpCode.{OpCode}
use Rattle.handler_code.specs.declared.code.OpCode.TheVariants as op
use Rattle.handler_code.specs.Live.{HasOp}
use Rattle.code_walks.specs.Parts.{end_of, place_or}
use Rattle.compiled_meaning.specs.Compiled.{code_of, in_order, loops_in, rests_in}
use Rattle.compiled_meaning.specs.Whole.{Entry, IsCode, door_of, doors_from, entries_code, entries_from, entries_of, entry_code}
use Rattle.compiled_meaning.proofs.Accepted.{contains_first, contains_later}
use Rattle.compiled_meaning.proofs.Handlers.{has_all}
use Rattle.compiled_meaning.proofs.Places.{HasAt, has_back, has_front}

-- ---- doors and handlers, one by one

-- the handler of this number among these, whose code stands from a place and a rest on
record Here (p : Protocol) (ops : List OpCode) (entries : List Entry) (door : Door) (number next : ℕ) : Type 0 where
  entry : Entry
  at : ℕ
  rest : ℕ
  is_entry : slice_get entries number ≡ Some entry
  door-is : door ≡ door_of p entry at (entry_code p entry at rest 0)
  has : HasAt ops at (entry_code p entry at rest 0)
  next-is : next ≡ at + length (entry_code p entry at rest 0)

module _ (p : Protocol) (ops : List OpCode) where
  pub next_place : (entries : List Entry) (at r h : ℕ) → place_or (slice_get (doors_from p at r entries) 0)
      (at + length (in_order (map (entry_code p) entries) at r h)) ≡ at
  next_place [] at r h = omega arith
  next_place (d ∷ entries) at r h = refl

  here : (entries : List Entry) (at r h number : ℕ) (door : Door) →
      HasAt ops at (in_order (map (entry_code p) entries) at r h) → slice_get (doors_from p at r entries) number ≡ Some door →
      Here p ops entries door number (place_or (slice_get (doors_from p at r entries) (suc number))
      (at + length (in_order (map (entry_code p) entries) at r h)))
  here [] at r h number door has e = cc
  here (d ∷ entries) at r h zero door has e =
      let c = entry_code p d at r 0 in
      let more = in_order (map (entry_code p) entries) (at + length c) (r + rests_in c) (h + loops_in c) in
      let all : at + length (c ++ more) ≡ at + length c + length more = omega (arith, length-append c more) in
      record {
        entry = d;
        at = at;
        rest = r;
        is_entry = refl;
        door-is = cc;
        has = has_front ops at c more has;
        next-is = ap (place_or (slice_get (doors_from p (at + length c) (r + rests_in c) entries) 0)) all
            ∙ next_place entries (at + length c) (r + rests_in c) (h + loops_in c);
      }
  here (d ∷ entries) at r h (suc number) door has e =
      let c = entry_code p d at r 0 in
      let more = in_order (map (entry_code p) entries) (at + length c) (r + rests_in c) (h + loops_in c) in
      let all : at + length (c ++ more) ≡ at + length c + length more = omega (arith, length-append c more) in
      let x = here entries (at + length c) (r + rests_in c) (h + loops_in c) number door (has_back ops at c more has) e in
      record {
        entry = x.entry;
        at = x.at;
        rest = x.rest;
        is_entry = x.is_entry;
        door-is = x.door-is;
        has = x.has;
        next-is = ap (place_or (slice_get (doors_from p (at + length c) (r + rests_in c) entries) (suc number))) all ∙ x.next-is;
      }

-- ---- the handlers are those of the states

pub record IsOf (p : Protocol) (d : Entry) : Type 0 where
  pub is_state : slice_get p.states d.number ≡ Some d.state
  pub handler : Contains d.state.handlers d.handler

module _ (p : Protocol) where
  of_state : (number : ℕ) (s : State) → slice_get p.states number ≡ Some s → (hs : List Handler) →
      ((h : Handler) → Contains hs h → Contains s.handlers h) → (entries : List Entry) → Each (IsOf p) entries →
      Each (IsOf p) (map (λ h. record { number = number; state = s; handler = h }) hs ++ entries)
  of_state number s i [] up entries f = f
  of_state number s i (h ∷ hs) up entries f = (
    record { is_state = i; handler = up h (contains_first h hs) },
    of_state number s i hs (λ k c. up k (contains_later h k hs c)) entries f,
  )

  of_states : (number : ℕ) (states : List State) → ((j : ℕ) (s : State) → slice_get states j ≡ Some s →
      slice_get p.states (number + j) ≡ Some s) → Each (IsOf p) (entries_from number states)
  of_states number [] up = tt
  of_states number (s ∷ states) up =
      let first : slice_get p.states number ≡ Some s = let z : number + 0 ≡ number =
      omega arith in subst (λ k. slice_get p.states k ≡ Some s) z (up 0 s refl) in
      of_state number s first s.handlers (λ h c. c) (entries_from (number + 1) states) (of_states (number + 1) states (λ j t e.
      let z : number + suc j ≡ number + 1 + j = omega arith in
      subst (λ k. slice_get p.states k ≡ Some t) z (up (suc j) t e)))

  pub is_of : (number : ℕ) (d : Entry) → slice_get (entries_of p) number ≡ Some d → IsOf p d
  is_of number d e =
      each_at (IsOf p) (entries_of p) d (slice_has (entries_of p) number d e) (of_states 0 p.states (λ j s f.
      let z : j ≡ 0 + j = omega arith in
      subst (λ k. slice_get p.states k ≡ Some s) z f))

-- ---- a handler in the code

abbrev pub names_of : Entry → List Name
names_of d = names_in d.state d.handler

abbrev pub body_code : Protocol → Entry → ℕ → ℕ → List OpCode
body_code p d at rest = code_of p (names_of d) d.handler.body at rest (length (names_of d))

-- the handler behind the door of this number, and its code up to its last op
pub record HandledAt (p : Protocol) (code : Code) (number : ℕ) (door : Door) (at : ℕ) : Type 0 where
  pub entry : Entry
  pub rest : ℕ
  pub fin : ℕ
  pub is_entry : slice_get (entries_of p) number ≡ Some entry
  pub of : IsOf p entry
  pub state : door.state ≡ entry.number
  pub on : door ≡ door_of p entry at (entry_code p entry at rest 0)
  pub has : HasAt code.ops at (body_code p entry at rest)
  pub fin-is : fin ≡ at + length (body_code p entry at rest)
  pub done : HasOp code.ops fin op.Done
  pub end : end_of code number ≡ fin + 1

abbrev pub Handled : Protocol → Code → ℕ → Door → Type 0
Handled p code number door = HandledAt p code number door door.at

pub handled : (p : Protocol) (code : Code) → IsCode p code → (number : ℕ) (door : Door) →
    slice_get code.doors number ≡ Some door → Handled p code number door
handled p code c number door e =
    let ops = entries_code p (entries_of p) in
    let all = subst (λ l. HasAt l 0 ops) (sym c.ops) (has_all ops []) in
    let e' : slice_get (doors_from p 0 0 (entries_of p)) number ≡ Some door =
    subst (λ l. slice_get l number ≡ Some door) c.doors e in
    let x = here p code.ops (entries_of p) 0 0 0 number door all e' in
    let at : x.at ≡ door.at = sym (ap (λ (d : Door). d.at) x.door-is) in
    let body = body_code p x.entry x.at x.rest in
    let ends : number + 1 ≡ suc number = omega arith in
    let total : 0 + length ops ≡ length code.ops = omega (arith, ap length c.ops) in
    let next : end_of code number ≡ x.at + length (body ++ op.Done ∷ []) =
    ap (λ k. place_or (slice_get code.doors k) (length code.ops)) ends
    ∙ (ap (λ l. place_or (slice_get l (suc number)) (length code.ops)) c.doors
    ∙ (ap (place_or (slice_get (doors_from p 0 0 (entries_of p)) (suc number))) (sym total) ∙ x.next-is)) in
    let made : HandledAt p code number door x.at = record {
      entry = x.entry;
      rest = x.rest;
      fin = x.at + length body;
      is_entry = x.is_entry;
      of = is_of p number x.entry x.is_entry;
      state = ap (λ (d : Door). d.state) x.door-is;
      on = x.door-is;
      has = has_front code.ops x.at body (op.Done ∷ []) x.has;
      fin-is = refl;
      done = (has_back code.ops x.at body (op.Done ∷ []) x.has).0;
      end = next ∙ omega (arith, length-append body (op.Done ∷ []));
    } in
    subst (HandledAt p code number door) at made
