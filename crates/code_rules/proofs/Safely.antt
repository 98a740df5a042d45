-- Where the machine stands on code that keeps the rules.
use Rattle.std.proofs.Common.{◌≡◌, ℕ, zero, suc, ◌+◌, ◌-◌, ◌<◌, ◌≤◌, ◌⊎◌, ◌==◌, ◌&&◌, Bool, true, false, not, List, [], ◌∷◌}
use Rattle.std.proofs.Common.{Option, Some, None, drop, length, nat_lt, nat_le, inl, inr, ap, sym, subst, ◌∙◌, refl, arith}
use Rattle.std.specs.Prelude.{if◌then◌else◌, slice_get, unwrap_or, MatchBool}
use Rattle.std.specs.List.{list_all}
use Rattle.std.proofs.Common.{add-one, length-drop}
use Rattle.std.proofs.lemmas.Bool.{and_parts, cases_lt, cases_eq, eqb-true, ltb-true, leb-true}
use Rattle.std.proofs.Common.{eq-eqb}
use Rattle.std.proofs.lemmas.Option.{slice_get_within}
use Rattle.tw_base.specs.declared.value.Value.{Value}
use Rattle.tw_base.specs.declared.value.Value.TheVariants as v
use Rattle.teapot_tree.specs.declared.protocol.Protocol.{Protocol}
use Rattle.handler_code.specs.declared.code.Code.{Code}
use Rattle.handler_code.specs.declared.code.Door.{Door}
use Rattle.handler_code.specs.declared.code.OpCode.{OpCode}
use Rattle.handler_code.specs.declared.code.OpCode.TheVariants as op
use Rattle.handler_code.specs.declared.code.Rest.{Rest}
use Rattle.handler_code.specs.Live.{HasOp}
use Rattle.handler_code.specs.Machine.{Machine, Next, Stop, Saved, Stopped, act, act_at, below, counted, landing, message_arity}
use Rattle.handler_code.specs.Machine.{move_of, place_of_rest, resumed, state_arity, top, turn, value_at}
use Rattle.teapot_meaning.specs.Steps.{least_of, set_of}
use Rattle.code_rules.specs.declared.fault.Rule.{Rule}
use Rattle.code_rules.specs.declared.fault.Rule.TheVariants.{Ranges, Jumps, Stack, Ends, Rests}
use Rattle.code_walks.specs.Jumps.{is_back_to, is_done, is_each_to, is_nested, is_not_entered, leads_well, loops_of}
use Rattle.code_walks.specs.Parts.{end_of, op_at, part_of, place_or}
use Rattle.code_rules.specs.Rules.{Breaks, KeepsRules}
use Rattle.code_rules.specs.Safety.{IsOnWalk, IsSafe, IsStart, Reaches, starts, goes}
use Rattle.code_rules.specs.Serving.{is_behind, is_placed, suspends_to}
use Rattle.handler_code.specs.Stacks.{taken_by}
use Rattle.code_walks.specs.Stacks.{depth_after, depth_at, is_served, is_value, target}
use Rattle.code_rules.specs.Structure.{begins, is_door_of, is_rest_of, is_structured, rises_from}
use Rattle.code_walks.proofs.Walking.{depth_more, depth_none}

-- ---- what the rules say

bool-not : (b : Bool) → (not b ≡ true → ⊥) → b ≡ true
bool-not true h = refl
bool-not false h = absurd (h refl)

bool-false : (b : Bool) → (b ≡ false → ⊥) → b ≡ true
bool-false true h = refl
bool-false false h = absurd (h refl)

pub structured : (p : Protocol) (code : Code) → KeepsRules code p → is_structured p code ≡ true
structured p code k = by (is_structured p code) refl
  where
    by : (b : Bool) → is_structured p code ≡ b → is_structured p code ≡ true
    by true e = e
    by false e =
        absurd (k (length code.ops) Ranges
        (subst (λ z. MatchBool z (Breaks code p (length code.ops) Ranges)
        ((length code.ops ≡ length code.ops) × (Ranges ≡ Ranges))) (sym e) (refl, refl)))

pub kept-rule : (p : Protocol) (code : Code) (k : KeepsRules code p) (at : ℕ) (rule : Rule) → Breaks code p at rule → ⊥
kept-rule p code k at rule b =
    k at rule (subst (λ z. MatchBool z (Breaks code p at rule) ((at ≡ length code.ops) × (rule ≡ Ranges)))
    (sym (structured p code k)) b)

-- a place in the handler behind a door
pub record InPart (code : Code) (number : ℕ) (door : Door) (at : ℕ) : Type 0 where
  pub is_door : slice_get code.doors number ≡ Some door
  pub from : door.at ≤ at
  pub before : at < end_of code number

pub served-at : (p : Protocol) (code : Code) (k : KeepsRules code p) (number : ℕ) (door : Door) (at : ℕ) →
    InPart code number door at → is_served p (op_at code at) (depth_at p code door.at (at - door.at)) ≡ true
served-at p code k number door at i = bool-not (is_served p (op_at code at) (depth_at p code door.at (at - door.at)))
    (λ h. kept-rule p code k at Stack (record {
      number = number;
      door = door;
      is_door = i.is_door;
      within = record { from = i.from; before = i.before; holds = inl h };
    }))

pub shallow-at : (p : Protocol) (code : Code) (k : KeepsRules code p) (number : ℕ) (door : Door) (at to : ℕ) →
    InPart code number door at → InPart code number door to → target (op_at code at) ≡ Some to →
    depth_at p code door.at (to - door.at) ≡ 0
shallow-at p code k number door at to i j t = elim (cases_lt 0 (depth_at p code door.at (to - door.at))) [
  | inl deep ↦ absurd
      (kept-rule p code k to Stack (record {
        number = number;
        door = door;
        is_door = j.is_door;
        within = record {
          from = j.from;
          before = j.before;
          holds = inr
              (record { at = at; from = i.from; before = i.before; leads = t; deep = deep });
        };
      }))
  | inr ge ↦ omega arith
]

pub well-at : (p : Protocol) (code : Code) (k : KeepsRules code p) (number : ℕ) (door : Door) (at : ℕ) →
    InPart code number door at → leads_well (loops_of code (part_of code number door)) code (part_of code number door) at
    (op_at code at) ≡ true
well-at p code k number door at i =
    bool-not (leads_well (loops_of code (part_of code number door)) code (part_of code number door) at (op_at code at))
    (λ h. kept-rule p code k at Jumps (record {
      number = number;
      door = door;
      is_door = i.is_door;
      within = record { from = i.from; before = i.before; holds = h };
    }))

two-true : (a b : Bool) → a ≡ true → b ≡ true → (a && b) ≡ true
two-true a b e f = ap (λ z. z && b) e ∙ f

pub done-at : (p : Protocol) (code : Code) (k : KeepsRules code p) (number : ℕ) (door : Door) (at : ℕ) →
    InPart code number door at → at + 1 ≡ end_of code number → is_done (op_at code at) ≡ true
done-at p code k number door at i e = bool-false (is_done (op_at code at))
    (λ f. kept-rule p code k at Ends (record {
      number = number;
      door = door;
      is_door = i.is_door;
      within = record {
        from = i.from;
        before = i.before;
        holds = two-true (at + 1 == end_of code number)
            (not (is_done (op_at code at))) (eq-eqb (at + 1) (end_of code number) e) (ap not f);
      };
    }))

-- an op that is not Done has one behind it
pub next-in : (p : Protocol) (code : Code) (k : KeepsRules code p) (number : ℕ) (door : Door) (at : ℕ) →
    InPart code number door at → is_done (op_at code at) ≡ false → InPart code number door (at + 1)
next-in p code k number door at i f =
    let lt = i.before in
    let from = i.from in
    elim (cases_eq (at + 1) (end_of code number)) [
      | inl q ↦ let d = done-at p code k number door at i q in absurd (cc)
      | inr ne ↦ record { is_door = i.is_door; from = omega arith; before = omega arith }
    ]

-- ---- doors and rests

list-all-at : {X : Type 0} (t : X → Bool) (xs : List X) (i : ℕ) (x : X) → list_all t xs ≡ true → slice_get xs i ≡ Some x →
    t x ≡ true
list-all-at t [] i x h e = let w = slice_get_within [] i x e in absurd (omega arith)
list-all-at t (y ∷ xs) zero x h e = let q : y ≡ x = cc in subst (λ z. t z ≡ true) q (and_parts (t y) (list_all t xs) h).0
list-all-at t (y ∷ xs) (suc i) x h e = list-all-at t xs i x (and_parts (t y) (list_all t xs) h).1 e

pub rises-at : (least : ℕ) (ds : List Door) (i : ℕ) (a b : Door) → rises_from least ds ≡ true → slice_get ds i ≡ Some a →
    slice_get ds (suc i) ≡ Some b → a.at < b.at
rises-at least [] i a b r e f = let w = slice_get_within [] i a e in absurd (omega arith)
rises-at least (d ∷ []) zero a b r e f = let w = slice_get_within (d ∷ []) 1 b f in absurd (omega arith)
rises-at least (d ∷ (c ∷ ds)) zero a b r e f =
    let x = and_parts (nat_le least d.at) (nat_le (d.at + 1) c.at && rises_from (c.at + 1) ds) r in
    let y = and_parts (nat_le (d.at + 1) c.at) (rises_from (c.at + 1) ds) x.1 in
    let z = leb-true (d.at + 1) c.at y.0 in
    let q : d ≡ a = cc in
    let s : c ≡ b = cc in
    subst (λ u. u.at < b.at) q (subst (λ u. d.at < u.at) s (omega arith))
rises-at least (d ∷ ds) (suc i) a b r e f = rises-at (d.at + 1) ds i a b
    (and_parts (nat_le least d.at) (rises_from (d.at + 1) ds) r).1 e f

-- what the structure says
pub record Fitting (p : Protocol) (code : Code) : Type 0 where
  pub begin : begins code.doors (length code.ops) ≡ true
  pub rise : rises_from 0 code.doors ≡ true
  pub doors : list_all (is_door_of p (length code.ops)) code.doors ≡ true

pub fitting : (p : Protocol) (code : Code) → KeepsRules code p → Fitting p code
fitting p code k =
    let a = and_parts (begins code.doors (length code.ops)) (rises_from 0 code.doors
    && (list_all (is_door_of p (length code.ops)) code.doors && list_all
    (is_rest_of code.doors (length code.ops)) code.rests)) (structured p code k) in
    let b = and_parts (rises_from 0 code.doors) (list_all (is_door_of p (length code.ops)) code.doors && list_all
    (is_rest_of code.doors (length code.ops)) code.rests) a.1 in
    let c = and_parts (list_all (is_door_of p (length code.ops)) code.doors)
    (list_all (is_rest_of code.doors (length code.ops)) code.rests) b.1 in
    record { begin = a.0; rise = b.0; doors = c.0 }

door-lt : (p : Protocol) (code : Code) → Fitting p code → (number : ℕ) (door : Door) →
    slice_get code.doors number ≡ Some door → door.at < length code.ops
door-lt p code f number door e =
    let h = list-all-at (is_door_of p (length code.ops)) code.doors number door f.doors e in
    ltb-true door.at (length code.ops) (and_parts _ (nat_lt door.at (length code.ops)) h).1

pub end-le : (p : Protocol) (code : Code) → Fitting p code → (number : ℕ) → end_of code number ≤ length code.ops
end-le p code f number = by (slice_get code.doors (number + 1)) refl
  where
    by : (o : Option Door) → slice_get code.doors (number + 1) ≡ o →
        place_or (slice_get code.doors (number + 1)) (length code.ops) ≤ length code.ops
    by (Some d) e = let lt = door-lt p code f (number + 1) d e in subst (λ z. place_or z (length code.ops) ≤ length code.ops)
        (sym e) (omega arith)
    by None e = subst (λ z. place_or z (length code.ops) ≤ length code.ops) (sym e) (omega arith)

pub door-in : (p : Protocol) (code : Code) → Fitting p code → (number : ℕ) (door : Door) →
    slice_get code.doors number ≡ Some door → InPart code number door door.at
door-in p code f number door e = record { is_door = e; from = omega arith; before = by (slice_get code.doors (number + 1)) refl }
  where
    by : (o : Option Door) → slice_get code.doors (number + 1) ≡ o →
        door.at < place_or (slice_get code.doors (number + 1)) (length code.ops)
    by (Some d) g = subst (λ z. door.at < place_or z (length code.ops)) (sym g)
        (rises-at 0 code.doors number door d f.rise e (subst (λ z. slice_get code.doors z ≡ Some d) (add-one number) g))
    by None g = subst (λ z. door.at < place_or z (length code.ops)) (sym g) (door-lt p code f number door e)

pub first-of : (ds : List Door) (n : ℕ) → begins ds n ≡ true → 0 < n → (d : Door) × (slice_get ds 0 ≡ Some d) × (d.at ≡ 0)
first-of [] n b lt = let e = eqb-true n 0 b in absurd (omega arith)
first-of (d ∷ ds) n b lt = (d, refl, eqb-true d.at 0 b)

behind : (code : Code) (number : ℕ) (o : Option Door) (at : ℕ) → slice_get code.doors number ≡ o →
    is_behind code number o at ≡ true → (door : Door) × InPart code number door at
behind code number (Some door) at e h =
    let a = and_parts (nat_le door.at at) (nat_lt at (end_of code number)) h in
    (door, record { is_door = e; from = leb-true door.at at a.0; before = ltb-true at (end_of code number) a.1 })
behind code number None at e h = absurd (cc)

pub suspend-not-done : (r : ℕ) (o : OpCode) → suspends_to r o ≡ true → is_done o ≡ false
suspend-not-done r op.Done e = cc
suspend-not-done r _ e = refl

suspend-no-value : (r : ℕ) (o : OpCode) → suspends_to r o ≡ true → is_value o ≡ false
suspend-no-value r (op.Suspend s q) e = refl
suspend-no-value r _ e = cc

pub zero-by : (b : Bool) (t d : ℕ) → b ≡ false → (if b then d - t + 1 else 0) ≡ 0
zero-by true t d e = absurd (cc)
zero-by false t d e = refl

-- a place at which the stack is empty
pub record Empty (p : Protocol) (code : Code) (at : ℕ) : Type 0 where
  pub number : ℕ
  pub door : Door
  pub inside : InPart code number door at
  pub deep : depth_at p code door.at (at - door.at) ≡ 0

at-door-empty : (p : Protocol) (code : Code) → Fitting p code → (number : ℕ) (door : Door) →
    slice_get code.doors number ≡ Some door → Empty p code door.at
at-door-empty p code f number door e = record {
  number = number;
  door = door;
  inside = door-in p code f number door e;
  deep = depth_none p code door.at;
}

pub at-rest-empty : (p : Protocol) (code : Code) (k : KeepsRules code p) (number : ℕ) (rest : Rest) →
    slice_get code.rests number ≡ Some rest → Empty p code rest.at
at-rest-empty p code k number rest e =
    let placed =
    bool-false (is_placed code number rest) (λ f. kept-rule p code k rest.at Rests
    (record { number = number; rest = rest; is_rest = e; place = refl; holds = f })) in
    let at = rest.at - 1 in
    let a = and_parts _
    (nat_lt 0 rest.at && (suspends_to number (op_at code at) && is_behind code rest.door
    (slice_get code.doors rest.door) at)) placed in
    let b = and_parts (nat_lt 0 rest.at) (suspends_to number (op_at code at) && is_behind code rest.door
    (slice_get code.doors rest.door) at) a.1 in
    let c = and_parts (suspends_to number (op_at code at)) (is_behind code rest.door (slice_get code.doors rest.door) at) b.1 in
    let w = behind code rest.door (slice_get code.doors rest.door) at refl c.1 in
    let up = ltb-true 0 rest.at b.0 in
    let same : at + 1 ≡ rest.at = omega arith in
    let i = next-in p code k rest.door w.0 at w.1 (suspend-not-done number (op_at code at) c.0) in
    let d = depth_more p code w.0.at at w.1.from in
    let z = zero-by (is_value (op_at code at)) (taken_by p (op_at code at)) (depth_at p code w.0.at (at - w.0.at))
    (suspend-no-value number (op_at code at) c.0) in
    subst (λ y. Empty p code y) same (record { number = rest.door; door = w.0; inside = i; deep = d ∙ z })

-- ---- one op

on-place : (p : Protocol) (code : Code) → Fitting p code → (a : Machine) (number : ℕ) (door : Door) (at : ℕ) →
    InPart code number door at → a.at ≡ at → length a.stack ≡ depth_at p code door.at (at - door.at) → IsOnWalk p code a
on-place p code f a number door at i e d =
    let le = end-le p code f number in
    let lt = i.before in
    let j = subst (λ z. InPart code number door z) (sym e) i in
    record {
      number = number;
      door = door;
      is_door = i.is_door;
      from = j.from;
      before = j.before;
      inside = omega arith;
      deep = subst (λ z. length a.stack ≡ depth_at p code door.at (z - door.at)) (sym e) d;
    }

on-empty : (p : Protocol) (code : Code) → Fitting p code → (a : Machine) (at : ℕ) → Empty p code at → a.at ≡ at →
    length a.stack ≡ 0 → IsOnWalk p code a
on-empty p code f a at x e d = on-place p code f a x.number x.door at x.inside e (d ∙ sym x.deep)

next-is : (a b : Machine) → Next a ≡ Next b → a ≡ b
next-is a b e = cc

pub op-is : (code : Code) (at : ℕ) (o : OpCode) → HasOp code.ops at o → op_at code at ≡ o
op-is code at o h = ap (λ z. unwrap_or z op.Done) h

in-part : (p : Protocol) (code : Code) (m : Machine) (w : IsOnWalk p code m) → InPart code w.number w.door m.at
in-part p code m w = record { is_door = w.is_door; from = w.from; before = w.before }

advance : (p : Protocol) (code : Code) (k : KeepsRules code p) (m : Machine) → IsOnWalk p code m → (o : OpCode) →
    HasOp code.ops m.at o → (a next : Machine) → Next a ≡ Next next → is_done o ≡ false → a.at ≡ m.at + 1 →
    length a.stack ≡ depth_after p o (length m.stack) → IsOnWalk p code next
advance p code k m w o h a next e nd at d =
    let s = op-is code m.at o h in
    let i = next-in p code k w.number w.door m.at (in-part p code m w) (subst (λ z. is_done z ≡ false) (sym s) nd) in
    let g = depth_more p code w.door.at m.at w.from in
    let q = ap (λ z. depth_after p o z) w.deep in
    let r = ap (λ z. depth_after p z (depth_at p code w.door.at (m.at - w.door.at))) (sym s) in
    subst (λ z. IsOnWalk p code z) (next-is a next e)
    (on-place p code (fitting p code k) a w.number w.door (m.at + 1) i at (d ∙ q ∙ r ∙ sym g))

jump : (p : Protocol) (code : Code) (k : KeepsRules code p) (m : Machine) (w : IsOnWalk p code m) (o : OpCode) (to : ℕ) →
    HasOp code.ops m.at o → (a next : Machine) → Next a ≡ Next next → target o ≡ Some to → w.door.at ≤ to →
    to < end_of code w.number → a.at ≡ to → length a.stack ≡ 0 → IsOnWalk p code next
jump p code k m w o to h a next e t from before at d =
    let s = op-is code m.at o h in
    let j : InPart code w.number w.door to = record { is_door = w.is_door; from = from; before = before } in
    let z = shallow-at p code k w.number w.door m.at to (in-part p code m w) j (ap target s ∙ t) in
    subst (λ z. IsOnWalk p code z) (next-is a next e)
    (on-place p code (fitting p code k) a w.number w.door to j at (d ∙ sym z))

-- ---- each op

below-length : (xs : List Value) → length (below xs) ≡ length xs - 1
below-length [] = refl
below-length (x ∷ xs) = omega arith

landing-is : (x : Value) (a b : ℕ) → (landing x a b ≡ a) ⊎ (landing x a b ≡ b)
landing-is (v.Int n) a b = inr refl
landing-is (v.Bool true) a b = inl refl
landing-is (v.Bool false) a b = inr refl
landing-is (v.Node n) a b = inr refl
landing-is (v.Set s) a b = inr refl

stop-not-next : (x : Stopped) (n : Machine) → Stop x ≡ Next n → ⊥
stop-not-next x n e = cc

stop-either : (b : Bool) (x y : Stopped) (n : Machine) → (if b then Stop x else Stop y) ≡ Next n → ⊥
stop-either true x y n e = stop-not-next x n e
stop-either false x y n e = stop-not-next y n e

pub back-not-done : (at : ℕ) (o : OpCode) → is_back_to at o ≡ true → is_done o ≡ true → ⊥
back-not-done at op.Done e f = cc
back-not-done at _ e f = cc

-- the place to which a loop leads is in the handler
pub loop-end : (p : Protocol) (code : Code) (k : KeepsRules code p) (number : ℕ) (door : Door) (at to : ℕ) →
    InPart code number door at → at + 1 < to → to ≤ end_of code number → is_back_to at (op_at code (to - 1)) ≡ true →
    to < end_of code number
loop-end p code k number door at to i lt le b = elim (cases_lt to (end_of code number)) [
  | inl less ↦ less
  | inr ge ↦
      let from = i.from in
      let j : InPart code number door (to - 1) = record { is_door = i.is_door; from = omega arith; before = omega arith } in
      absurd (back-not-done at (op_at code (to - 1)) b (done-at p code k number door (to - 1) j (omega arith)))
]

-- what the rules say of the op at hand
well-of : (p : Protocol) (code : Code) (k : KeepsRules code p) (m : Machine) (w : IsOnWalk p code m) (o : OpCode) →
    HasOp code.ops m.at o → leads_well (loops_of code (part_of code w.number w.door)) code
    (part_of code w.number w.door) m.at o ≡ true
well-of p code k m w o h =
    subst (λ z. leads_well (loops_of code (part_of code w.number w.door)) code (part_of code w.number w.door) m.at z ≡ true)
    (op-is code m.at o h)
    (well-at p code k w.number w.door m.at (in-part p code m w))

served-of : (p : Protocol) (code : Code) (k : KeepsRules code p) (m : Machine) (w : IsOnWalk p code m) →
    is_served p (op_at code m.at) (length m.stack) ≡ true
served-of p code k m w =
    subst (λ z. is_served p (op_at code m.at) z ≡ true) (sym w.deep)
    (served-at p code k w.number w.door m.at (in-part p code m w))

rest-case : (p : Protocol) (code : Code) (k : KeepsRules code p) (m a : Machine) → IsOnWalk p code m →
    (r : ℕ) (o : Option Rest) → slice_get code.rests r ≡ o → a.at ≡ place_of_rest o → length a.stack ≡ 0 → IsOnWalk p code a
rest-case p code k m a w r (Some rest) e at d = on-empty p code (fitting p code k) a rest.at
    (at-rest-empty p code k r rest e) at d
rest-case p code k m a w r None e at d =
    let i = w.inside in
    let f = fitting p code k in
    let x = first-of code.doors (length code.ops) f.begin (omega arith) in
    on-empty p code f a 0 (subst (λ z. Empty p code z) x.2 (at-door-empty p code f 0 x.0 x.1)) at d

resume-case : (p : Protocol) (code : Code) (k : KeepsRules code p) (m next : Machine) → IsOnWalk p code m →
    (chain : List Saved) → resumed code (counted m) chain ≡ Next next → IsOnWalk p code next
resume-case p code k m next w [] e = absurd (stop-not-next _ next e)
resume-case p code k m next w (s ∷ chain) e = subst (λ z. IsOnWalk p code z) (next-is _ next e)
    (rest-case p code k m _ w s.rest (slice_get code.rests s.rest) refl refl refl)

each-case : (p : Protocol) (code : Code) (k : KeepsRules code p) (m next : Machine) (w : IsOnWalk p code m) (x h to : ℕ) →
    HasOp code.ops m.at (op.EachNext x h to) → length m.stack ≡ 0 → w.door.at ≤ to → to < end_of code w.number →
    (set : List Bool) (n : Option ℕ) → Next (turn m x h to set n) ≡ Next next → IsOnWalk p code next
each-case p code k m next w x h to has empty from before set None e =
    jump p code k m w (op.EachNext x h to) to has _ next e refl from before refl empty
each-case p code k m next w x h to has empty from before set (Some n) e =
    advance p code k m w (op.EachNext x h to) has _ next e refl refl empty

go : (p : Protocol) (code : Code) (k : KeepsRules code p) (m next : Machine) → IsOnWalk p code m → (o : OpCode) →
    HasOp code.ops m.at o → is_served p o (length m.stack) ≡ true → act p code o m ≡ Next next → IsOnWalk p code next
go p code k m next w (op.Const x) h s e = advance p code k m w (op.Const x) h _ next e refl refl (omega arith)
go p code k m next w (op.Get x) h s e = advance p code k m w (op.Get x) h _ next e refl refl (omega arith)
go p code k m next w (op.GetInfo x) h s e = advance p code k m w (op.GetInfo x) h _ next e refl refl (omega arith)
go p code k m next w op.Me h s e = advance p code k m w op.Me h _ next e refl refl (omega arith)
go p code k m next w op.Home h s e = advance p code k m w op.Home h _ next e refl refl (omega arith)
go p code k m next w op.One h s e = let b = below-length m.stack in advance p code k m w op.One h _ next e refl refl (omega arith)
go p code k m next w op.Not h s e = let b = below-length m.stack in advance p code k m w op.Not h _ next e refl refl (omega arith)
go p code k m next w op.Count h s e = let b = below-length m.stack in advance p code k m w op.Count h _ next e refl refl
    (omega arith)
go p code k m next w (op.Two o) h s e = let b = below-length m.stack in let c =
    below-length (below m.stack) in advance p code k m w (op.Two o) h _ next e refl refl (omega arith)
go p code k m next w (op.Put x) h s e = let d = eqb-true (length m.stack) 1 s in let b =
    below-length m.stack in advance p code k m w (op.Put x) h _ next e refl refl (omega arith)
go p code k m next w (op.PutInfo x) h s e = let d = eqb-true (length m.stack) 1 s in let b =
    below-length m.stack in advance p code k m w (op.PutInfo x) h _ next e refl refl (omega arith)
go p code k m next w (op.JumpIfNot to) h s e =
    let d = eqb-true (length m.stack) 1 s in
    let b = below-length m.stack in
    let empty : length (below m.stack) ≡ 0 = omega arith in
    let a = and_parts (nat_lt m.at to) (nat_lt to (end_of code w.number) && list_all (is_not_entered m.at to)
    (loops_of code (part_of code w.number w.door))) (well-of p code k m w (op.JumpIfNot to) h) in
    let c = and_parts (nat_lt to (end_of code w.number)) (list_all (is_not_entered m.at to)
    (loops_of code (part_of code w.number w.door))) a.1 in
    let up = ltb-true m.at to a.0 in
    let from = w.from in
    elim (landing-is (top m.stack) (m.at + 1) to) [
      | inl l ↦ advance p code k m w (op.JumpIfNot to) h _ next e refl l empty
      | inr l ↦ jump p code k m w (op.JumpIfNot to) to h _ next e refl (omega arith)
          (ltb-true to (end_of code w.number) c.0) l empty
    ]
go p code k m next w (op.Jump to) h s e =
    let d = eqb-true (length m.stack) 0 s in
    let a = and_parts (nat_lt m.at to) (nat_lt to (end_of code w.number) && list_all (is_not_entered m.at to)
    (loops_of code (part_of code w.number w.door))) (well-of p code k m w (op.Jump to) h) in
    let c = and_parts (nat_lt to (end_of code w.number)) (list_all (is_not_entered m.at to)
    (loops_of code (part_of code w.number w.door))) a.1 in
    let up = ltb-true m.at to a.0 in
    let from = w.from in
    jump p code k m w (op.Jump to) to h _ next e refl (omega arith) (ltb-true to (end_of code w.number) c.0) refl d
go p code k m next w (op.JumpBack to) h s e =
    let d = eqb-true (length m.stack) 0 s in
    let a = and_parts (nat_le w.door.at to) (nat_lt to m.at && is_each_to (m.at + 1) (op_at code to))
    (well-of p code k m w (op.JumpBack to) h) in
    let c = and_parts (nat_lt to m.at) (is_each_to (m.at + 1) (op_at code to)) a.1 in
    let down = ltb-true to m.at c.0 in
    let before = w.before in
    jump p code k m w (op.JumpBack to) to h _ next e refl (leb-true w.door.at to a.0) (omega arith) refl d
go p code k m next w (op.EachNext x y to) h s e =
    let d = eqb-true (length m.stack) 0 s in
    let part = part_of code w.number w.door in
    let a = and_parts (nat_lt (m.at + 1) to) (nat_le to (end_of code w.number)
    && (is_back_to m.at (op_at code (to - 1)) && list_all (is_nested m.at to) (loops_of code part)))
    (well-of p code k m w (op.EachNext x y to) h) in
    let b = and_parts (nat_le to (end_of code w.number)) (is_back_to m.at (op_at code (to - 1)) && list_all (is_nested m.at to)
    (loops_of code part)) a.1 in
    let c = and_parts (is_back_to m.at (op_at code (to - 1))) (list_all (is_nested m.at to) (loops_of code part)) b.1 in
    let up = ltb-true (m.at + 1) to a.0 in
    let from = w.from in
    let before = loop-end p code k w.number w.door m.at to (in-part p code m w) up (leb-true to (end_of code w.number) b.0) c.0 in
    each-case p code k m next w x y to h d (omega arith) before (set_of (value_at m.slots y))
    (least_of (set_of (value_at m.slots y))) e
go p code k m next w (op.Tag x) h s e = advance p code k m w (op.Tag x) h _ next e refl refl (eqb-true (length m.stack) 0 s)
go p code k m next w op.Install h s e = advance p code k m w op.Install h _ next e refl refl (eqb-true (length m.stack) 0 s)
go p code k m next w op.Enqueue h s e = advance p code k m w op.Enqueue h _ next e refl refl (eqb-true (length m.stack) 0 s)
go p code k m next w op.Wake h s e = advance p code k m w op.Wake h _ next e refl refl (eqb-true (length m.stack) 0 s)
go p code k m next w (op.Send x) h s e =
    let d = eqb-true (length m.stack) (message_arity (slice_get p.messages x) + 1) s in
    let b = below-length (drop (message_arity (slice_get p.messages x)) m.stack) in
    let c = length-drop (message_arity (slice_get p.messages x)) m.stack in
    advance p code k m w (op.Send x) h _ next e refl refl (omega arith)
go p code k m next w (op.SendAll x) h s e =
    let d = eqb-true (length m.stack) (message_arity (slice_get p.messages x) + 1) s in
    let b = below-length (drop (message_arity (slice_get p.messages x)) m.stack) in
    let c = length-drop (message_arity (slice_get p.messages x)) m.stack in
    advance p code k m w (op.SendAll x) h _ next e refl refl (omega arith)
go p code k m next w (op.Goto x) h s e =
    let d = eqb-true (length m.stack) (state_arity (slice_get p.states x)) s in
    let c = length-drop (state_arity (slice_get p.states x)) m.stack in
    advance p code k m w (op.Goto x) h _ next e refl refl (omega arith)
go p code k m next w (op.Suspend x r) h s e = absurd (stop-either (nat_le 8 (length m.chain)) _ _ next e)
go p code k m next w op.Resume h s e = resume-case p code k m next w m.chain e
go p code k m next w (op.Fail x) h s e = absurd (stop-not-next _ next e)
go p code k m next w op.Done h s e = absurd (stop-not-next _ next e)

-- ---- all ops

pub has-op : {X : Type 0} (xs : List X) (at : ℕ) → at < length xs → (x : X) × (slice_get xs at ≡ Some x)
has-op [] at lt = absurd (omega arith)
has-op (x ∷ xs) zero lt = (x, refl)
has-op (x ∷ xs) (suc at) lt = has-op xs at (omega arith)

step : (p : Protocol) (code : Code) (k : KeepsRules code p) (m next : Machine) → IsOnWalk p code m →
    move_of p code m ≡ Next next → IsOnWalk p code next
step p code k m next w e =
    let o = has-op code.ops m.at w.inside in
    let a : act_at p code (Some o.0) m ≡ Next next = subst (λ z. act_at p code z m ≡ Next next) o.1 e in
    let s = subst (λ z. is_served p z (length m.stack) ≡ true) (op-is code m.at o.0 o.1) (served-of p code k m w) in
    go p code k m next w o.0 o.1 s a

start : (p : Protocol) (code : Code) (k : KeepsRules code p) (m : Machine) → IsStart code m → IsOnWalk p code m
start p code k m s =
    let d = ap length s.empty in
    elim s.place [
      | inl x ↦ on-empty p code (fitting p code k) m x.door.at
          (at-door-empty p code (fitting p code k) x.number x.door x.is_door) (sym x.place) d
      | inr x ↦ on-empty p code (fitting p code k) m x.rest.at (at-rest-empty p code k x.number x.rest x.is_rest) (sym x.place) d
    ]

walks : (p : Protocol) (code : Code) (k : KeepsRules code p) (first : Machine) → IsStart code first → {m : Machine} →
    Reaches p code first m → IsOnWalk p code m
walks p code k first s starts = start p code k first s
walks p code k first s (goes {m = m} {next = next} r e) = step p code k m next (walks p code k first s r) e

pub enough : (b : Bool) (t d r : ℕ) → (if b then nat_le t d && nat_le r 24 else d == t) ≡ true → t ≤ d
enough true t d r e = leb-true t d (and_parts (nat_le t d) (nat_le r 24) e).0
enough false t d r e = let s = eqb-true d t e in omega arith

pub safe : (p : Protocol) (code : Code) → KeepsRules code p → IsSafe p code
safe p code k = λ first m s r.
    let w = walks p code k first s r in
    record {
      walk = w;
      served = enough (is_value (op_at code m.at)) (taken_by p (op_at code m.at)) (length m.stack)
          (depth_after p (op_at code m.at) (length m.stack)) (served-of p code k m w);
    }
