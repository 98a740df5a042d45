-- The stack's depth, and where it is not 0.
use Rattle.std.proofs.Common.{◌≡◌, ℕ, ◌+◌, ◌-◌, ◌<◌, ◌≤◌, ◌⊎◌, ◌&&◌, Bool, true, false, not, Option, Some, None, nat_lt, inl}
use Rattle.std.proofs.Common.{inr, ap, sym, subst, ◌∙◌, refl, arith}
use Rattle.std.specs.Prelude.{if◌then◌else◌}
use Rattle.std.proofs.lemmas.Bool.{and_parts, cases_lt, lt-ltb, ltb-true}
use Rattle.handler_code.specs.declared.code.Code.{Code}
use Rattle.handler_code.specs.declared.code.OpCode.{OpCode}
use Rattle.teapot_tree.specs.declared.protocol.Protocol.{Protocol}
use Rattle.code_walks.specs.declared.parts.Part.{Part}
use Rattle.tw_base.specs.Lists.{lesser}
use Rattle.code_walks.specs.Least.{IsLeast}
use Rattle.code_walks.specs.Parts.{Within, op_at}
use Rattle.handler_code.specs.Stacks.{taken_by}
use Rattle.code_walks.specs.Stacks.{BreaksStack, IsLedTo, LeadsInside, depth_after, depth_at, is_inside, is_served, is_unserved}
use Rattle.code_walks.specs.Stacks.{is_value, target}
use Rattle.code_walks.proofs.Leasts.{least_more, same_least}
use Rattle.code_walks.proofs.Walking.{depth_more, depth_none}

small-by : (b : Bool) (t d : ℕ) → (if b then d - t + 1 else 0) ≤ d + 1
small-by true t d = omega arith
small-by false t d = omega arith

pub depth_small : (p : Protocol) (o : OpCode) (d : ℕ) → depth_after p o d ≤ d + 1
depth_small p o d = small-by (is_value o) (taken_by p o) d

deep-by : (b : Bool) (t d : ℕ) → b ≡ true → 0 < (if b then d - t + 1 else 0)
deep-by true t d e = omega arith
deep-by false t d e = absurd (cc)

value-by : (b : Bool) (t d : ℕ) → 0 < (if b then d - t + 1 else 0) → b ≡ true
value-by true t d lt = refl
value-by false t d lt = absurd (omega arith)

-- ---- one op that leads

pub led_some : (code : Code) (part : Part) (o : OpCode) (to : ℕ) → target o ≡ Some to → is_inside code part to ≡ true →
    IsLeast (LeadsInside code part o) (Some to)
led_some code part o to e h = ((e, h), λ k x. let d = x.0 in let s : to ≡ k = cc in omega arith)

pub led_outside : (code : Code) (part : Part) (o : OpCode) (to : ℕ) → target o ≡ Some to → is_inside code part to ≡ false →
    IsLeast (LeadsInside code part o) None
led_outside code part o to e h = λ k x. let d = x.0 in let s : to ≡ k = cc in let g =
    subst (λ z. is_inside code part z ≡ true) (sym s) x.1 in cc

pub led_none : (code : Code) (part : Part) (o : OpCode) → target o ≡ None → IsLeast (LeadsInside code part o) None
led_none code part o e = λ k x. let d = x.0 in cc

-- ---- all of a handler's

-- an op before a place leads there
pub record LedBefore (code : Code) (part : Part) (bound to : ℕ) : Type 0 where
  pub at : ℕ
  pub from : part.door.at ≤ at
  pub before : at < bound
  pub inside : at < part.end
  pub leads : LeadsInside code part (op_at code at) to

pub led_first : (code : Code) (part : Part) → IsLeast (LedBefore code part part.door.at) None
led_first code part = λ k x. let f = x.from in let b = x.before in absurd (omega arith)

parts-led : (code : Code) (part : Part) (at k : ℕ) → LedBefore code part (at + 1) k →
    LedBefore code part at k ⊎ LeadsInside code part (op_at code at) k
parts-led code part at k x = elim (cases_lt x.at at) [
  | inl lt ↦ inl (record { at = x.at; from = x.from; before = lt; inside = x.inside; leads = x.leads })
  | inr ge ↦ let b = x.before in let e : x.at ≡ at = omega arith in inr
      (subst (λ z. LeadsInside code part (op_at code z) k) e x.leads)
]

pub led_more : (code : Code) (part : Part) (at : ℕ) (a b : Option ℕ) → part.door.at ≤ at → at < part.end →
    IsLeast (LedBefore code part at) a → IsLeast (LeadsInside code part (op_at code at)) b →
    IsLeast (LedBefore code part (at + 1)) (lesser a b)
led_more code part at a b from lt h g =
    least_more (LedBefore code part at) (LeadsInside code part (op_at code at)) (LedBefore code part (at + 1)) a b
    (λ k x. let f = x.before in record { at = x.at; from = x.from; before = omega arith; inside = x.inside; leads = x.leads })
    (λ k x. record { at = at; from = from; before = omega arith; inside = lt; leads = x })
    (parts-led code part at) h g

deep-inside : (p : Protocol) (code : Code) (from to : ℕ) → from < to → is_value (op_at code (to - 1)) ≡ true →
    0 < depth_at p code from (to - from)
deep-inside p code from to lt v =
    let e = depth_more p code from (to - 1) (omega arith) in
    let s : (to - 1) + 1 ≡ to = omega arith in
    let d = subst (λ z. depth_at p code from (z - from) ≡ depth_after p (op_at code (to - 1))
    (depth_at p code from ((to - 1) - from))) s e in
    subst (λ z. 0 < z) (sym d) (deep-by (is_value (op_at code (to - 1))) (taken_by p (op_at code (to - 1)))
    (depth_at p code from ((to - 1) - from)) v)

value-inside : (p : Protocol) (code : Code) (from to : ℕ) → from < to → 0 < depth_at p code from (to - from) →
    is_value (op_at code (to - 1)) ≡ true
value-inside p code from to lt deep =
    let e = depth_more p code from (to - 1) (omega arith) in
    let s : (to - 1) + 1 ≡ to = omega arith in
    let d = subst (λ z. depth_at p code from (z - from) ≡ depth_after p (op_at code (to - 1))
    (depth_at p code from ((to - 1) - from))) s e in
    value-by (is_value (op_at code (to - 1))) (taken_by p (op_at code (to - 1))) (depth_at p code from ((to - 1) - from))
    (subst (λ z. 0 < z) d deep)

led-to : (p : Protocol) (code : Code) (part : Part) (k : ℕ) → LedBefore code part part.end k → Within part (IsLedTo p code part) k
led-to p code part k x =
    let a = and_parts (nat_lt part.door.at k) (nat_lt k part.end && is_value (op_at code (k - 1))) x.leads.1 in
    let b = and_parts (nat_lt k part.end) (is_value (op_at code (k - 1))) a.1 in
    let low : part.door.at < k = ltb-true part.door.at k a.0 in
    let high : k < part.end = ltb-true k part.end b.0 in
    record {
      from = omega arith;
      before = high;
      holds = record {
        at = x.at;
        from = x.from;
        before = x.before;
        leads = x.leads.0;
        deep = deep-inside p code part.door.at k low b.1;
      };
    }

above : (p : Protocol) (code : Code) (from k : ℕ) → from ≤ k → 0 < depth_at p code from (k - from) → from < k
above p code from k le deep = elim (cases_lt from k) [
  | inl lt ↦ lt
  | inr ge ↦
      let e : k ≡ from = omega arith in
      let z = subst (λ y. 0 < depth_at p code from (y - from)) e deep in
      let n = depth_none p code from in
      absurd (omega arith)
]

both : (a b c : Bool) → a ≡ true → b ≡ true → c ≡ true → (a && (b && c)) ≡ true
both a b c e f g = ap (λ z. z && (b && c)) e ∙ ap (λ z. z && c) f ∙ g

led-back : (p : Protocol) (code : Code) (part : Part) (k : ℕ) → Within part (IsLedTo p code part) k →
    LedBefore code part part.end k
led-back p code part k w =
    let low = above p code part.door.at k w.from w.holds.deep in
    record {
      at = w.holds.at;
      from = w.holds.from;
      before = w.holds.before;
      inside = w.holds.before;
      leads = (
        w.holds.leads,
        both (nat_lt part.door.at k) (nat_lt k part.end) (is_value (op_at code (k - 1))) (lt-ltb part.door.at k low)
            (lt-ltb k part.end w.before) (value-inside p code part.door.at k low w.holds.deep),
      );
    }

-- after all ops of a handler
pub led_all : (p : Protocol) (code : Code) (part : Part) (at : ℕ) (o : Option ℕ) → part.end ≤ at →
    IsLeast (LedBefore code part at) o → IsLeast (Within part (IsLedTo p code part)) o
led_all p code part at o past l =
    same_least (LedBefore code part at) (Within part (IsLedTo p code part)) o
    (λ k x. led-to p code part k (record { at = x.at; from = x.from; before = x.inside; inside = x.inside; leads = x.leads }))
    (λ k w. let y = led-back p code part k w in let b = y.inside in record
    { at = y.at; from = y.from; before = omega arith; inside = y.inside; leads = y.leads }) l

pub depth_next : (p : Protocol) (code : Code) (from at d r : ℕ) (o : OpCode) → from ≤ at → o ≡ op_at code at →
    d ≡ depth_at p code from (at - from) → r ≡ depth_after p o d → r ≡ depth_at p code from ((at + 1) - from)
depth_next p code from at d r o le e f g =
    g ∙ ap (λ z. depth_after p z d) e ∙ ap (λ z. depth_after p (op_at code at) z) f ∙ sym (depth_more p code from at le)

pub served_here : (p : Protocol) (code : Code) (part : Part) (at d : ℕ) (o : OpCode) → o ≡ op_at code at →
    d ≡ depth_at p code part.door.at (at - part.door.at) → is_served p o d ≡ true → is_unserved p code part at ≡ true → ⊥
served_here p code part at d o e f s u =
    let h : is_served p (op_at code at) (depth_at p code part.door.at (at - part.door.at)) ≡ true =
    ap (λ z. is_served p z (depth_at p code part.door.at (at - part.door.at))) (sym e) ∙ ap (λ z. is_served p o z) (sym f)
    ∙ s in
    let g = ap not h in
    let q : not true ≡ true = sym g ∙ u in
    cc

pub stack_least : (p : Protocol) (code : Code) (part : Part) (a b : Option ℕ) →
    IsLeast (Within part (λ at. is_unserved p code part at ≡ true)) a → IsLeast (Within part (IsLedTo p code part)) b →
    IsLeast (Within part (BreaksStack p code part)) (lesser a b)
stack_least p code part a b h g =
    least_more (Within part (λ at. is_unserved p code part at ≡ true)) (Within part (IsLedTo p code part))
    (Within part (BreaksStack p code part)) a b
    (λ k w. record { from = w.from; before = w.before; holds = inl w.holds })
    (λ k w. record { from = w.from; before = w.before; holds = inr w.holds })
    (λ k w. elim w.holds [
      | inl u ↦ inl (record { from = w.from; before = w.before; holds = u })
      | inr v ↦ inr
          (record { from = w.from; before = w.before; holds = v })
    ]) h g
