-- The least place among the first handlers, and among the first rests.
use Rattle.std.proofs.Common.{◌≡◌, ℕ, ◌+◌, ◌<◌, ◌≤◌, ◌⊎◌, refl, Option, Some, None, inl, inr, subst, ap, length, arith}
use Rattle.std.specs.Prelude.{slice_get}
use Rattle.std.proofs.lemmas.Bool.{cases_lt}
use Rattle.std.proofs.lemmas.Option.{slice_get_within}
use Rattle.handler_code.specs.declared.code.Code.{Code}
use Rattle.handler_code.specs.declared.code.Door.{Door}
use Rattle.handler_code.specs.declared.code.Rest.{Rest}
use Rattle.code_walks.specs.declared.parts.Part.{Part}
use Rattle.tw_base.specs.Lists.{lesser}
use Rattle.code_walks.specs.Least.{IsLeast}
use Rattle.code_walks.specs.Parts.{AtOp, AtRest, Within, end_of, part_of}
use Rattle.code_walks.proofs.Leasts.{least_more, same_least}

-- ---- handlers

pub record OpBefore (code : Code) (P : Part → ℕ → Type 0) (bound at : ℕ) : Type 0 where
  pub op : AtOp code P at
  pub before : op.number < bound

pub op_first : (code : Code) (P : Part → ℕ → Type 0) → IsLeast (OpBefore code P 0) None
op_first code P = λ k x. let b = x.before in absurd (omega arith)

at-door : (code : Code) (P : Part → ℕ → Type 0) (n m : ℕ) (d e : Door) (k : ℕ) → m ≡ n → slice_get code.doors n ≡ Some d →
    slice_get code.doors m ≡ Some e → Within (part_of code m e) (P (part_of code m e)) k →
    Within (part_of code n d) (P (part_of code n d)) k
at-door code P n m d e k s f g w =
    let g' : slice_get code.doors n ≡ Some e = subst (λ z. slice_get code.doors z ≡ Some e) s g in
    let same : e ≡ d = cc in
    subst (λ z. Within (part_of code n z) (P (part_of code n z)) k) same
    (subst (λ z. Within (part_of code z e) (P (part_of code z e)) k) s w)

parts-op : (code : Code) (P : Part → ℕ → Type 0) (n : ℕ) (d : Door) (k : ℕ) → slice_get code.doors n ≡ Some d →
    OpBefore code P (n + 1) k → OpBefore code P n k ⊎ Within (part_of code n d) (P (part_of code n d)) k
parts-op code P n d k is x = elim (cases_lt x.op.number n) [
  | inl lt ↦ inl (record { op = x.op; before = lt })
  | inr ge ↦ let b = x.before in let s : x.op.number ≡ n = omega arith in inr
      (at-door code P n x.op.number d x.op.door k s is x.op.is_door x.op.within)
]

-- one handler more
pub op_more : (code : Code) (P : Part → ℕ → Type 0) (n : ℕ) (d : Door) (a b : Option ℕ) → slice_get code.doors n ≡ Some d →
    IsLeast (OpBefore code P n) a → IsLeast (Within (part_of code n d) (P (part_of code n d))) b →
    IsLeast (OpBefore code P (n + 1)) (lesser a b)
op_more code P n d a b is h g =
    least_more (OpBefore code P n) (Within (part_of code n d) (P (part_of code n d))) (OpBefore code P (n + 1)) a b
    (λ k x. let f = x.before in record { op = x.op; before = omega arith })
    (λ k w. let o : AtOp code P k = record { number = n; door = d; is_door = is; within = w } in record
    { op = o; before = omega arith })
    (λ k x. parts-op code P n d k is x) h g

pub op_next : (code : Code) (P : Part → ℕ → Type 0) (n : ℕ) (part : Part) (a b : Option ℕ) →
    slice_get code.doors n ≡ Some part.door → part.end ≡ end_of code n → IsLeast (OpBefore code P n) a →
    IsLeast (Within part (P part)) b → IsLeast (OpBefore code P (n + 1)) (lesser a b)
op_next code P n part a b is e h g =
    let same : part ≡ part_of code n part.door = ap (λ z. let x : Part = record { door = part.door; end = z } in x) e in
    op_more code P n part.door a b is h (subst (λ z. IsLeast (Within z (P z)) b) same g)

-- all handlers
pub op_all : (code : Code) (P : Part → ℕ → Type 0) (n : ℕ) (o : Option ℕ) → length code.doors ≤ n →
    IsLeast (OpBefore code P n) o → IsLeast (AtOp code P) o
op_all code P n o past h =
    same_least (OpBefore code P n) (AtOp code P) o (λ k x. x.op)
    (λ k x. let w = slice_get_within code.doors x.number x.door x.is_door in record { op = x; before = omega arith }) h

-- ---- rests

pub record RestBefore (code : Code) (P : ℕ → Rest → Type 0) (bound at : ℕ) : Type 0 where
  pub rest : AtRest code P at
  pub before : rest.number < bound

pub rest_first : (code : Code) (P : ℕ → Rest → Type 0) → IsLeast (RestBefore code P 0) None
rest_first code P = λ k x. let b = x.before in absurd (omega arith)

-- the rest of this number, if it holds there
pub record ThisRest (code : Code) (P : ℕ → Rest → Type 0) (n : ℕ) (r : Rest) (at : ℕ) : Type 0 where
  pub place : r.at ≡ at
  pub holds : P n r

pub this_some : (code : Code) (P : ℕ → Rest → Type 0) (n : ℕ) (r : Rest) → P n r → IsLeast (ThisRest code P n r) (Some r.at)
this_some code P n r h = (record { place = refl; holds = h }, λ k x. let e = x.place in omega arith)

pub this_none : (code : Code) (P : ℕ → Rest → Type 0) (n : ℕ) (r : Rest) → (P n r → ⊥) → IsLeast (ThisRest code P n r) None
this_none code P n r h = λ k x. h x.holds

at-rest : (code : Code) (P : ℕ → Rest → Type 0) (n m : ℕ) (d e : Rest) (k : ℕ) → m ≡ n → slice_get code.rests n ≡ Some d →
    slice_get code.rests m ≡ Some e → e.at ≡ k → P m e → ThisRest code P n d k
at-rest code P n m d e k s f g place h =
    let g' : slice_get code.rests n ≡ Some e = subst (λ z. slice_get code.rests z ≡ Some e) s g in
    let same : e ≡ d = cc in
    record { place = subst (λ z. z.at ≡ k) same place; holds = subst (λ z. P n z) same (subst (λ z. P z e) s h) }

parts-rest : (code : Code) (P : ℕ → Rest → Type 0) (n : ℕ) (r : Rest) (k : ℕ) → slice_get code.rests n ≡ Some r →
    RestBefore code P (n + 1) k → RestBefore code P n k ⊎ ThisRest code P n r k
parts-rest code P n r k is x = elim (cases_lt x.rest.number n) [
  | inl lt ↦ inl (record { rest = x.rest; before = lt })
  | inr ge ↦ let b = x.before in let s : x.rest.number ≡ n =
      omega arith in inr (at-rest code P n x.rest.number r x.rest.rest k s is x.rest.is_rest x.rest.place x.rest.holds)
]

pub rest_more : (code : Code) (P : ℕ → Rest → Type 0) (n : ℕ) (r : Rest) (a b : Option ℕ) → slice_get code.rests n ≡ Some r →
    IsLeast (RestBefore code P n) a → IsLeast (ThisRest code P n r) b → IsLeast (RestBefore code P (n + 1)) (lesser a b)
rest_more code P n r a b is h g =
    least_more (RestBefore code P n) (ThisRest code P n r) (RestBefore code P (n + 1)) a b
    (λ k x. let f = x.before in record { rest = x.rest; before = omega arith })
    (λ k w. let o : AtRest code P k = record { number = n; rest = r; is_rest = is; place = w.place; holds = w.holds } in record
    { rest = o; before = omega arith })
    (λ k x. parts-rest code P n r k is x) h g

pub rest_all : (code : Code) (P : ℕ → Rest → Type 0) (n : ℕ) (o : Option ℕ) → length code.rests ≤ n →
    IsLeast (RestBefore code P n) o → IsLeast (AtRest code P) o
rest_all code P n o past h =
    same_least (RestBefore code P n) (AtRest code P) o (λ k x. x.rest)
    (λ k x. let w = slice_get_within code.rests x.number x.rest x.is_rest in record { rest = x; before = omega arith }) h
