-- One depth of the stack at each place.
use Rattle.std.proofs.Common.{◌≡◌, ℕ, zero, suc, ◌+◌, ◌-◌, ◌<◌, ◌≤◌, ◌==◌, ◌&&◌, Bool, true, false, List, [], ◌∷◌, Option, Some}
use Rattle.std.proofs.Common.{length, nat_lt, nat_le, inl, inr, ap, sym, subst, ◌∙◌, refl, lit≤, arith, add-one}
use Rattle.std.specs.Prelude.{if◌then◌else◌, slice_get, unwrap_or}
use Rattle.std.specs.List.{list_all}
use Rattle.std.proofs.lemmas.Bool.{and_parts, cases_lt, eqb-true, ltb-true, leb-true}
use Rattle.std.proofs.lemmas.Option.{slice_get_past, slice_get_within}
use Rattle.teapot_tree.specs.declared.protocol.Protocol.{Protocol}
use Rattle.handler_code.specs.declared.code.Code.{Code}
use Rattle.handler_code.specs.declared.code.Door.{Door}
use Rattle.handler_code.specs.declared.code.OpCode.{OpCode}
use Rattle.handler_code.specs.declared.code.OpCode.TheVariants as op
use Rattle.handler_code.specs.Live.{HasOp, LeadsTo}
use Rattle.code_walks.specs.Jumps.{is_back_to, is_done, is_each_to, is_nested, is_not_entered, leads_well, loops_of}
use Rattle.code_walks.specs.Parts.{end_of, op_at, part_of, place_or}
use Rattle.code_rules.specs.Rules.{KeepsRules}
use Rattle.code_rules.specs.Safety.{depth_in}
use Rattle.handler_code.specs.Stacks.{HasDepth, put_by, taken_by}
use Rattle.code_walks.specs.Stacks.{depth_after, depth_at, is_served, is_value, target}
use Rattle.code_rules.specs.Structure.{begins}
use Rattle.code_rules.proofs.Safely.{Empty, Fitting, InPart, at-rest-empty, done-at, door-in, end-le, enough, first-of, fitting}
use Rattle.code_rules.proofs.Safely.{has-op, loop-end, op-is, rises-at, served-at, shallow-at, well-at, zero-by}

slice-before : (ds : List Door) (n : ℕ) (d : Door) → slice_get ds (suc n) ≡ Some d → n < length ds
slice-before ds n d e = let w = slice_get_within ds (suc n) d e in omega arith

value-less : (b : Bool) (t d r : ℕ) → b ≡ false → (if b then nat_le t d && nat_le r 24 else d == t) ≡ true → d ≡ t
value-less true t d r e f = absurd (cc)
value-less false t d r e f = eqb-true d t f

-- ---- each place is in a handler

pub record Found (ds : List Door) (n at : ℕ) : Type 0 where
  pub number : ℕ
  pub door : Door
  pub is_door : slice_get ds number ≡ Some door
  pub from : door.at ≤ at
  pub before : at < place_or (slice_get ds (suc number)) n

find-door : (d : Door) (ds : List Door) (n at : ℕ) → d.at ≤ at → at < n → Found (d ∷ ds) n at
find-door d [] n at le lt = record { number = 0; door = d; is_door = refl; from = le; before = lt }
find-door d (e ∷ ds) n at le lt = elim (cases_lt at e.at) [
  | inl less ↦ record { number = 0; door = d; is_door = refl; from = le; before = less }
  | inr ge ↦ let f = find-door e ds n at ge lt in record {
    number = suc f.number;
    door = f.door;
    is_door = f.is_door;
    from = f.from;
    before = f.before;
  }
]

found-in : (ds : List Door) (n at : ℕ) → begins ds n ≡ true → at < n → Found ds n at
found-in [] n at b lt = let e = eqb-true n 0 b in absurd (omega arith)
found-in (d ∷ ds) n at b lt = let e = eqb-true d.at 0 b in find-door d ds n at (omega arith) lt

-- the handler of a place
pub record Home (code : Code) (at : ℕ) : Type 0 where
  pub number : ℕ
  pub door : Door
  pub inside : InPart code number door at

pub home : (p : Protocol) (code : Code) → Fitting p code → (at : ℕ) → at < length code.ops → Home code at
home p code f at lt =
    let x = found-in code.doors (length code.ops) at f.begin lt in
    record {
      number = x.number;
      door = x.door;
      inside =
          record {
            is_door = x.is_door;
            from = x.from;
            before = subst
                (λ z. at < place_or (slice_get code.doors z) (length code.ops)) (sym (add-one x.number)) x.before;
          };
    }

-- ---- the walk over all ops, and that over a handler

done-no-value : (o : OpCode) → is_done o ≡ true → is_value o ≡ false
done-no-value op.Done e = refl
done-no-value _ e = cc

in-more : (p : Protocol) (code : Code) (at : ℕ) → depth_in p code (at + 1) ≡ depth_after p (op_at code at) (depth_in p code at)
in-more p code at =
    let e : at + 1 ≡ suc at = omega arith in
    let s : 0 + at ≡ at = omega arith in
    ap (λ z. depth_in p code z) e ∙ ap (λ z. depth_after p (op_at code z) (depth_in p code at)) s

no-value-after : (p : Protocol) (code : Code) (at : ℕ) → is_value (op_at code at) ≡ false → depth_in p code (at + 1) ≡ 0
no-value-after p code at v = in-more p code at ∙ zero-by (is_value (op_at code at)) (taken_by p (op_at code at))
    (depth_in p code at) v

door-depth : (p : Protocol) (code : Code) (k : KeepsRules code p) (number : ℕ) (door : Door) →
    slice_get code.doors number ≡ Some door → depth_in p code door.at ≡ 0
door-depth p code k zero door e =
    let f = fitting p code k in
    let i = door-in p code f 0 door e in
    let le = end-le p code f 0 in
    let lt = i.before in
    let x = first-of code.doors (length code.ops) f.begin (omega arith) in
    let g = x.1 in
    let q : x.0 ≡ door = cc in
    let z : door.at ≡ 0 = subst (λ d. d.at ≡ 0) q x.2 in
    ap (λ y. depth_in p code y) z
door-depth p code k (suc number) door e =
    let f = fitting p code k in
    let lt = slice-before code.doors number door e in
    let before = has-op code.doors number lt in
    let up = rises-at 0 code.doors number before.0 door f.rise before.1 e in
    let at = door.at - 1 in
    let same : at + 1 ≡ door.at = omega arith in
    let end : end_of code number ≡ door.at = ap (λ z. place_or z (length code.ops))
    (subst (λ z. slice_get code.doors z ≡ Some door) (sym (add-one number)) e) in
    let i : InPart code number before.0 at = record { is_door = before.1; from = omega arith; before = omega arith } in
    let d = done-at p code k number before.0 at i (omega arith) in
    subst (λ z. depth_in p code z ≡ 0) same (no-value-after p code at (done-no-value (op_at code at) d))

-- so many ops into a handler both walks agree
agree : (p : Protocol) (code : Code) (from n : ℕ) → depth_in p code from ≡ 0 → depth_in p code (from + n) ≡ depth_at p code from n
agree p code from zero z = let s : from + 0 ≡ from = omega arith in ap (λ y. depth_in p code y) s ∙ z
agree p code from (suc n) z =
    let s : from + suc n ≡ (from + n) + 1 = omega arith in
    ap (λ y. depth_in p code y) s ∙ in-more p code (from + n)
    ∙ ap (λ y. depth_after p (op_at code (from + n)) y) (agree p code from n z)

same-depth : (p : Protocol) (code : Code) (k : KeepsRules code p) (number : ℕ) (door : Door) (at : ℕ) →
    InPart code number door at → depth_in p code at ≡ depth_at p code door.at (at - door.at)
same-depth p code k number door at i =
    let from = i.from in
    let s : door.at + (at - door.at) ≡ at = omega arith in
    subst (λ z. depth_in p code z ≡ depth_at p code door.at (at - door.at)) s
    (agree p code door.at (at - door.at) (door-depth p code k number door i.is_door))

served : (p : Protocol) (code : Code) (k : KeepsRules code p) (number : ℕ) (door : Door) (at : ℕ) →
    InPart code number door at → is_served p (op_at code at) (depth_in p code at) ≡ true
served p code k number door at i =
    subst (λ z. is_served p (op_at code at) z ≡ true) (sym (same-depth p code k number door at i))
    (served-at p code k number door at i)

few-by : (b : Bool) (t d : ℕ) → (if b then nat_le t d && nat_le (if b then d - t + 1 else 0) 24 else d == t) ≡ true →
    (if b then d - t + 1 else 0) ≤ 24
few-by true t d e = leb-true (d - t + 1) 24 (and_parts (nat_le t d) (nat_le (d - t + 1) 24) e).1
few-by false t d e = lit≤ tt

balance : (b : Bool) (t d r : ℕ) → (if b then nat_le t d && nat_le r 24 else d == t) ≡ true →
    (if b then d - t + 1 else 0) + t ≡ d + (if b then 1 else 0)
balance true t d r e = let le = leb-true t d (and_parts (nat_le t d) (nat_le r 24) e).0 in omega arith
balance false t d r e = let s = eqb-true d t e in omega arith

most : (p : Protocol) (code : Code) (k : KeepsRules code p) (at : ℕ) → depth_in p code at ≤ 24
most p code k zero = lit≤ tt
most p code k (suc at) = subst (λ z. depth_in p code z ≤ 24) (add-one at) (elim (cases_lt at (length code.ops)) [
  | inl lt ↦
      let h = home p code (fitting p code k) at lt in
      let s = served p code k h.number h.door at h.inside in
      subst (λ z. z ≤ 24) (sym (in-more p code at)) (few-by (is_value (op_at code at)) (taken_by p (op_at code at))
      (depth_in p code at) s)
  | inr ge ↦
      let e : op_at code at ≡ op.Done = ap (λ z. unwrap_or z op.Done) (slice_get_past code.ops at ge) in
      let v : is_value (op_at code at) ≡ false = ap is_value e in
      let z = no-value-after p code at v in
      omega arith
])

-- ---- where ops lead

put_is : (o : OpCode) → (if is_value o then 1 else 0) ≡ put_by o
put_is (op.Const x) = refl
put_is _ = refl

forward : (p : Protocol) (code : Code) (k : KeepsRules code p) (number : ℕ) (door : Door) (at next : ℕ) (o : OpCode) →
    InPart code number door at → HasOp code.ops at o → next ≡ at + 1 →
    depth_in p code next + taken_by p o ≡ depth_in p code at + put_by o
forward p code k number door at next o i h e =
    let q = op-is code at o h in
    let s = subst (λ z. is_served p z (depth_in p code at) ≡ true) q (served p code k number door at i) in
    let b = balance (is_value o) (taken_by p o) (depth_in p code at) (depth_after p o (depth_in p code at)) s in
    let m = in-more p code at ∙ ap (λ z. depth_after p z (depth_in p code at)) q in
    ap (λ z. depth_in p code z + taken_by p o) e ∙ ap (λ z. z + taken_by p o) m
    ∙ (b ∙ ap (λ n. depth_in p code at + n) (put_is o))

aside : (p : Protocol) (code : Code) (k : KeepsRules code p) (number : ℕ) (door : Door) (at next to : ℕ) (o : OpCode) →
    InPart code number door at → HasOp code.ops at o → next ≡ to → target o ≡ Some to → is_value o ≡ false → door.at ≤ to →
    to < end_of code number → depth_in p code next + taken_by p o ≡ depth_in p code at + put_by o
aside p code k number door at next to o i h e t v from before =
    let q = op-is code at o h in
    let j : InPart code number door to = record { is_door = i.is_door; from = from; before = before } in
    let z = same-depth p code k number door to j ∙ shallow-at p code k number door at to i j (ap target q ∙ t) in
    let s = subst (λ y. is_served p y (depth_in p code at) ≡ true) q (served p code k number door at i) in
    let d = value-less (is_value o) (taken_by p o) (depth_in p code at) (depth_after p o (depth_in p code at)) v s in
    let w = sym (put_is o) ∙ ap (λ (b : Bool). if b then 1 else 0) v in
    ap (λ y. depth_in p code y + taken_by p o) e ∙ ap (λ y. y + taken_by p o) z
    ∙ sum (taken_by p o) (depth_in p code at) (put_by o) d w
  where
    sum : (t d b : ℕ) → d ≡ t → b ≡ 0 → 0 + t ≡ d + b
    sum t d b e f = omega arith

well : (p : Protocol) (code : Code) (k : KeepsRules code p) (number : ℕ) (door : Door) (at : ℕ) (o : OpCode) →
    InPart code number door at → HasOp code.ops at o → leads_well (loops_of code (part_of code number door)) code
    (part_of code number door) at o ≡ true
well p code k number door at o i h =
    subst (λ z. leads_well (loops_of code (part_of code number door)) code (part_of code number door) at z ≡ true)
    (op-is code at o h) (well-at p code k number door at i)

onward : (p : Protocol) (code : Code) (k : KeepsRules code p) (number : ℕ) (door : Door) (at next to : ℕ) (o : OpCode) →
    InPart code number door at → HasOp code.ops at o → target o ≡ Some to → is_value o ≡ false →
    (nat_lt at to && (nat_lt to (end_of code number) && list_all (is_not_entered at to)
    (loops_of code (part_of code number door)))) ≡ true → next ≡ to →
    depth_in p code next + taken_by p o ≡ depth_in p code at + put_by o
onward p code k number door at next to o i h t v l e =
    let a = and_parts (nat_lt at to) (nat_lt to (end_of code number) && list_all (is_not_entered at to)
    (loops_of code (part_of code number door))) l in
    let c = and_parts (nat_lt to (end_of code number)) (list_all (is_not_entered at to)
    (loops_of code (part_of code number door))) a.1 in
    let up = ltb-true at to a.0 in
    let from = i.from in
    aside p code k number door at next to o i h e t v (omega arith) (ltb-true to (end_of code number) c.0)

leads : (p : Protocol) (code : Code) (k : KeepsRules code p) (number : ℕ) (door : Door) (at next : ℕ) (o : OpCode)
    (written : Option ℕ) → InPart code number door at → HasOp code.ops at o → LeadsTo o at next written →
    depth_in p code next + taken_by p o ≡ depth_in p code at + put_by o
leads p code k number door at next (op.Const x) written i h l = forward p code k number door at next (op.Const x) i h l.0
leads p code k number door at next (op.Get x) written i h l = forward p code k number door at next (op.Get x) i h l.0
leads p code k number door at next (op.GetInfo x) written i h l = forward p code k number door at next (op.GetInfo x) i h l.0
leads p code k number door at next op.Me written i h l = forward p code k number door at next op.Me i h l.0
leads p code k number door at next op.Home written i h l = forward p code k number door at next op.Home i h l.0
leads p code k number door at next op.One written i h l = forward p code k number door at next op.One i h l.0
leads p code k number door at next op.Not written i h l = forward p code k number door at next op.Not i h l.0
leads p code k number door at next op.Count written i h l = forward p code k number door at next op.Count i h l.0
leads p code k number door at next (op.Two x) written i h l = forward p code k number door at next (op.Two x) i h l.0
leads p code k number door at next (op.Put x) written i h l = forward p code k number door at next (op.Put x) i h l.0
leads p code k number door at next (op.PutInfo x) written i h l = forward p code k number door at next (op.PutInfo x) i h l.0
leads p code k number door at next (op.Tag x) written i h l = forward p code k number door at next (op.Tag x) i h l.0
leads p code k number door at next op.Install written i h l = forward p code k number door at next op.Install i h l.0
leads p code k number door at next op.Enqueue written i h l = forward p code k number door at next op.Enqueue i h l.0
leads p code k number door at next op.Wake written i h l = forward p code k number door at next op.Wake i h l.0
leads p code k number door at next (op.Send x) written i h l = forward p code k number door at next (op.Send x) i h l.0
leads p code k number door at next (op.SendAll x) written i h l = forward p code k number door at next (op.SendAll x) i h l.0
leads p code k number door at next (op.Goto x) written i h l = forward p code k number door at next (op.Goto x) i h l.0
leads p code k number door at next (op.Suspend x r) written i h l = forward p code k number door at next (op.Suspend x r) i h l.0
leads p code k number door at next (op.Fail x) written i h l = forward p code k number door at next (op.Fail x) i h l.0
leads p code k number door at next (op.Jump to) written i h l =
    onward p code k number door at next to (op.Jump to) i h refl refl (well p code k number door at (op.Jump to) i h) l.0
leads p code k number door at next (op.JumpIfNot to) written i h l = elim l.0 [
  | inl e ↦ onward p code k number door at next to (op.JumpIfNot to) i h refl refl
      (well p code k number door at (op.JumpIfNot to) i h) e
  | inr e ↦ forward p code k number door at next (op.JumpIfNot to) i h e
]
leads p code k number door at next (op.JumpBack to) written i h l =
    let a = and_parts (nat_le door.at to) (nat_lt to at && is_each_to (at + 1) (op_at code to))
    (well p code k number door at (op.JumpBack to) i h) in
    let c = and_parts (nat_lt to at) (is_each_to (at + 1) (op_at code to)) a.1 in
    let down = ltb-true to at c.0 in
    let before = i.before in
    aside p code k number door at next to (op.JumpBack to) i h l.0 refl refl (leb-true door.at to a.0) (omega arith)
leads p code k number door at next (op.EachNext x y to) written i h l = elim l [
  | inl d ↦
      let part = part_of code number door in
      let a = and_parts (nat_lt (at + 1) to) (nat_le to (end_of code number)
      && (is_back_to at (op_at code (to - 1)) && list_all (is_nested at to) (loops_of code part)))
      (well p code k number door at (op.EachNext x y to) i h) in
      let b = and_parts (nat_le to (end_of code number)) (is_back_to at (op_at code (to - 1)) && list_all (is_nested at to)
      (loops_of code part)) a.1 in
      let c = and_parts (is_back_to at (op_at code (to - 1))) (list_all (is_nested at to) (loops_of code part)) b.1 in
      let up = ltb-true (at + 1) to a.0 in
      let from = i.from in
      let before = loop-end p code k number door at to i up (leb-true to (end_of code number) b.0) c.0 in
      aside p code k number door at next to (op.EachNext x y to) i h d.0 refl refl (omega arith) before
  | inr d ↦ forward p code k number door at next (op.EachNext x y to) i h d.0
]
leads p code k number door at next op.Resume written i h l = absurd l
leads p code k number door at next op.Done written i h l = absurd l

empty-in : (p : Protocol) (code : Code) (k : KeepsRules code p) (at : ℕ) → Empty p code at → depth_in p code at ≡ 0
empty-in p code k at x = same-depth p code k x.number x.door at x.inside ∙ x.deep

served-op : (p : Protocol) (code : Code) (k : KeepsRules code p) (at : ℕ) (o : OpCode) → HasOp code.ops at o →
    taken_by p o ≤ depth_in p code at
served-op p code k at o h =
    let w = home p code (fitting p code k) at (slice_get_within code.ops at o h) in
    let s = subst (λ z. is_served p z (depth_in p code at) ≡ true) (op-is code at o h)
    (served p code k w.number w.door at w.inside) in
    enough (is_value o) (taken_by p o) (depth_in p code at) (depth_after p o (depth_in p code at)) s

pub depths : (p : Protocol) (code : Code) → KeepsRules code p → HasDepth p code (depth_in p code)
depths p code k = record {
  first = refl;
  doors = door-depth p code k;
  rests = λ number rest e. empty-in p code k rest.at (at-rest-empty p code k number rest e);
  enough = served-op p code k;
  leads = λ at next o written h l. let w = home p code (fitting p code k) at
      (slice_get_within code.ops at o h) in leads p code k w.number w.door at next o written w.inside h l;
  most = most p code k;
}
