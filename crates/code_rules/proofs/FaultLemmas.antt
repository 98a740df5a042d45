-- The first fault of all rules.
use Rattle.std.proofs.Common.{◌≡◌, ℕ, ◌+◌, ◌<◌, ◌≤◌, ◌⊎◌, ◌==◌, Bool, true, false, Option, Some, None, nat_lt, length, inl, inr}
use Rattle.std.proofs.Common.{subst, sym, ap, ◌∙◌, refl, arith}
use Rattle.std.specs.Prelude.{if◌then◌else◌, MatchBool}
use Rattle.std.proofs.lemmas.Bool.{cases_lt, ltb-true, ltb-false}
use Rattle.handler_code.specs.declared.code.Code.{Code}
use Rattle.teapot_tree.specs.declared.protocol.Protocol.{Protocol}
use Rattle.code_rules.specs.declared.fault.Fault.{Fault}
use Rattle.code_rules.specs.declared.fault.Rule.{Rule}
use Rattle.code_rules.specs.declared.fault.Rule.TheVariants.{Ranges, Jumps, Stack, Types, Ends, Rests, Live, Doors, Sets}
use Rattle.code_rules.specs.Faults.{FirstBelow, fault, sooner}
use Rattle.code_walks.specs.Least.{IsLeast}
use Rattle.code_rules.specs.Rules.{Breaks, IsBroken, IsFirstFault, KeepsRules, number_of}
use Rattle.code_rules.specs.Structure.{is_structured}
use Rattle.code_rules.proofs.RuleLemmas.{few_rules, from_one}

abbrev rule_from : ℕ → Rule
rule_from n =
    if n == 1 then Ranges else if n == 2 then Jumps else if n == 3 then Stack else if n == 4 then Types else if n == 5 then Ends
    else if n == 6 then Rests else if n == 7 then Live else if n == 8 then Doors else Sets

back : (r : Rule) → rule_from (number_of r) ≡ r
back Ranges = refl
back Jumps = refl
back Stack = refl
back Types = refl
back Ends = refl
back Rests = refl
back Live = refl
back Doors = refl
back Sets = refl

same-rule : (r s : Rule) → number_of r ≡ number_of s → r ≡ s
same-rule r s e = sym (back r) ∙ ap rule_from e ∙ back s

-- a rule of a number up to n is one of a lesser number, or this one
at-rule : (code : Code) (p : Protocol) (n : ℕ) (rule r : Rule) (at : ℕ) → number_of rule ≡ n → number_of r < n + 1 →
    Breaks code p at r → (number_of r < n) ⊎ ((number_of r ≡ n) × Breaks code p at rule)
at-rule code p n rule r at e lt b = elim (cases_lt (number_of r) n) [
  | inl less ↦ inl less
  | inr ge ↦ let s : number_of r ≡ n = omega arith in inr (s, subst (λ z. Breaks code p at z) (same-rule r rule (s ∙ sym e)) b)
]

at-or-after : (at k m n : ℕ) → at ≤ k → m ≤ n → (at < k) ⊎ ((at ≡ k) × (m ≤ n))
at-or-after at k m n le few = elim (cases_lt at k) [ inl lt ↦ inl lt | inr ge ↦ inr (omega arith, few) ]

before : (at f k : ℕ) (P : Type 0) → at < f → (f < k) ⊎ ((f ≡ k) × P) → at < k
before at f k P lt x = elim x [ inl u ↦ omega arith | inr v ↦ let e = v.0 in omega arith ]

chosen : (code : Code) (p : Protocol) (n : ℕ) (rule : Rule) (f : Fault) (at : ℕ) (b : Bool) → nat_lt at f.at ≡ b →
    number_of rule ≡ n → IsLeast (λ k. Breaks code p k rule) (Some at) → FirstBelow code p n (Some f) →
    FirstBelow code p (n + 1) (if b then Some (fault at rule) else Some f)
chosen code p n rule f at true t e h g =
    let lt = ltb-true at f.at t in (
      h.0,
      omega arith,
      λ k r few b. elim (at-rule code p n rule r k e few b) [
        | inl less ↦ inl (before at f.at k (number_of f.rule ≤ number_of r) lt (g.2 k r less b))
        | inr x ↦ let s = x.0 in at-or-after at k (number_of rule) (number_of r) (h.1 k x.1) (omega arith)
      ],
    )
chosen code p n rule f at false t e h g =
    let ge = ltb-false at f.at t in
    let small = g.1 in (
      g.0,
      omega arith,
      λ k r few b. elim (at-rule code p n rule r k e few b) [
        | inl less ↦ g.2 k r less b
        | inr x ↦ let s = x.0 in let le = h.1 k x.1 in at-or-after f.at k (number_of f.rule) (number_of r) (omega arith)
            (omega arith)
      ],
    )

-- one rule more
pub first_more : (code : Code) (p : Protocol) (n : ℕ) (rule : Rule) (f : Option Fault) (o : Option ℕ) → number_of rule ≡ n →
    IsLeast (λ k. Breaks code p k rule) o → FirstBelow code p n f → FirstBelow code p (n + 1) (sooner f o rule)
first_more code p n rule None None e h g = λ k r few b. elim
    (at-rule code p n rule r k e few b) [ inl less ↦ g k r less b | inr x ↦ h k x.1 ]
first_more code p n rule (Some f) None e h g =
    let small = g.1 in (
      g.0,
      omega arith,
      λ k r few b. elim (at-rule code p n rule r k e few b)
          [ inl less ↦ g.2 k r less b | inr x ↦ absurd (h k x.1) ],
    )
first_more code p n rule None (Some at) e h g = (
  h.0,
  omega arith,
  λ k r few b. elim (at-rule code p n rule r k e few b) [
    | inl less ↦ absurd (g k r less b)
    | inr x ↦ let s = x.0 in at-or-after at k (number_of rule) (number_of r) (h.1 k x.1) (omega arith)
  ],
)
first_more code p n rule (Some f) (Some at) e h g = chosen code p n rule f at (nat_lt at f.at) refl e h g

pub first_none : (code : Code) (p : Protocol) → FirstBelow code p 1 None
first_none code p = λ k r few b. let one = from_one r in absurd (omega arith)

-- ---- where doors and rests fit

to-broken : (code : Code) (p : Protocol) (at : ℕ) (rule : Rule) → is_structured p code ≡ true → Breaks code p at rule →
    IsBroken code p at rule
to-broken code p at rule s b = subst (λ z. MatchBool z (Breaks code p at rule) ((at ≡ length code.ops) × (rule ≡ Ranges)))
    (sym s) b

from-broken : (code : Code) (p : Protocol) (at : ℕ) (rule : Rule) → is_structured p code ≡ true → IsBroken code p at rule →
    Breaks code p at rule
from-broken code p at rule s b = subst (λ z. MatchBool z (Breaks code p at rule) ((at ≡ length code.ops) × (rule ≡ Ranges))) s b

from-unfit : (code : Code) (p : Protocol) (at : ℕ) (rule : Rule) → is_structured p code ≡ false → IsBroken code p at rule →
    (at ≡ length code.ops) × (rule ≡ Ranges)
from-unfit code p at rule s b = subst (λ z. MatchBool z (Breaks code p at rule) ((at ≡ length code.ops) × (rule ≡ Ranges))) s b

pub keeps_rules : (code : Code) (p : Protocol) → is_structured p code ≡ true → FirstBelow code p 10 None → KeepsRules code p
keeps_rules code p s g = λ at rule b. g at rule (few_rules rule) (from-broken code p at rule s b)

pub first_fault_is : (code : Code) (p : Protocol) (f : Fault) → is_structured p code ≡ true → FirstBelow code p 10 (Some f) →
    IsFirstFault code p f.at (number_of f.rule)
first_fault_is code p f s g = record {
  rule = f.rule;
  numbered = refl;
  broken = to-broken code p f.at f.rule s g.0;
  first = λ k r b. g.2 k r (few_rules r) (from-broken code p k r s b);
}

pub unfit_is : (code : Code) (p : Protocol) → is_structured p code ≡ false → IsFirstFault code p (length code.ops) 1
unfit_is code p s = record {
  rule = Ranges;
  numbered = refl;
  broken =
      subst (λ z. MatchBool z (Breaks code p (length code.ops) Ranges)
      ((length code.ops ≡ length code.ops) × (Ranges ≡ Ranges))) (sym s) (refl, refl);
  first = λ k r b. inr (sym (from-unfit code p k r s b).0, from_one r);
}
