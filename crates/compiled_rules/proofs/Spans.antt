-- What holds of each op from one place up to another.
use Rattle.std.proofs.Common.{◌≡◌, ℕ, suc, ◌+◌, ◌<◌, ◌≤◌, ◌⊎◌, true, false, List, subst, arith, inl, inr}
use Rattle.std.specs.Prelude.{nat_le, nat_lt}
use Rattle.std.proofs.lemmas.Bool.Decides.{leb_tells}
use Rattle.tw_base.specs.declared.name.Name.{Name}
use Rattle.teapot_tree.specs.declared.expr.Expr.{Expr}
use Rattle.teapot_tree.specs.declared.protocol.Protocol.{Protocol}
use Rattle.handler_code.specs.declared.code.OpCode.{OpCode}
use Rattle.handler_code.specs.Live.{HasOp}
use Rattle.compiled_meaning.specs.Follows.{Evaluates, EvaluatesAll}
use Rattle.compiled_meaning.specs.Follows as follows

pub le_true : (a b : ℕ) → a ≤ b → nat_le a b ≡ true
le_true a b h = by_test (leb_tells a b)
  where
    by_test : ((nat_le a b ≡ true) × (a ≤ b)) ⊎ ((nat_le a b ≡ false) × (b < a)) → nat_le a b ≡ true
    by_test (inl e) = e.0
    by_test (inr e) = absurd (let k = e.1 in omega arith)

pub lt_true : (a b : ℕ) → a < b → nat_lt a b ≡ true
lt_true a b h = le_true (suc a) b (omega arith)

pub before_or : (a b : ℕ) → (a < b) ⊎ (b ≤ a)
before_or a b = by_test (leb_tells b a)
  where
    by_test : ((nat_le b a ≡ true) × (b ≤ a)) ⊎ ((nat_le b a ≡ false) × (a < b)) → (a < b) ⊎ (b ≤ a)
    by_test (inl e) = inr e.1
    by_test (inr e) = inl e.1

abbrev pub Over : List OpCode → (ℕ → OpCode → Type 0) → ℕ → ℕ → Type 0
Over ops P lo hi = (a : ℕ) (o : OpCode) → lo ≤ a → a < hi → HasOp ops a o → P a o

module _ (ops : List OpCode) (P : ℕ → OpCode → Type 0) where
  pub over_none : (at : ℕ) → Over ops P at at
  over_none at a o l u has = absurd (omega arith)

  pub over_one : (at : ℕ) (o : OpCode) → HasOp ops at o → P at o → Over ops P at (at + 1)
  over_one at o has h a o' l u has' =
      let place : at ≡ a = omega arith in
      let there : HasOp ops a o = subst (λ z. HasOp ops z o) place has in
      let same : o ≡ o' = cc in
      subst (λ z. P z o') place (subst (λ z. P at z) same h)

  pub over_joined : (lo mid hi : ℕ) → Over ops P lo mid → Over ops P mid hi → Over ops P lo hi
  over_joined lo mid hi f g a o l u has = by_side (before_or a mid)
    where
      by_side : (a < mid) ⊎ (mid ≤ a) → P a o
      by_side (inl lt) = f a o l lt has
      by_side (inr le) = g a o le u has

module _ (p : Protocol) (names : List Name) (ops : List OpCode) where
  pub rises : {at after : ℕ} {e : Expr} → Evaluates p names ops at e after → at < after
  rises (follows.atom {at = at} d has) = omega arith
  rises (follows.single {at = at} {after = after} d x has) = let k = rises x in omega arith
  rises (follows.negation {at = at} {after = after} d x has) = let k = rises x in omega arith
  rises (follows.counting {at = at} {after = after} d x has) = let k = rises x in omega arith
  rises (follows.pair {at = at} {middle = middle} {after = after} d x y has) = let k = rises x in let m = rises y in omega arith

  pub all_rise : {at after : ℕ} {es : List Expr} → EvaluatesAll p names ops at es after → at ≤ after
  all_rise (follows.none {at = at}) = omega arith
  all_rise (follows.more {at = at} {middle = middle} {after = after} x xs) = let k = rises x in let m = all_rise xs in omega arith
