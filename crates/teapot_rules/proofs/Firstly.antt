-- The first of the least lines is the first break.
use Rattle.std.proofs.Common.{◌≡◌, ℕ, ◌<◌, ◌≤◌, min, nat_le, Bool, true, false, List, [], ◌∷◌, Option, Some, None}
use Rattle.std.proofs.Common.{if◌then◌else◌, refl, sym, subst, inl, inr, ◌⊎◌, arith, lit≤}
use Rattle.std.proofs.lemmas.Bool.{cases_lt, leb-true, leb-false}
use Rattle.tw_base.specs.Lists.{Each}
use Rattle.teapot_tree.specs.declared.protocol.Protocol.{Protocol}
use Rattle.teapot_tree.specs.declared.rule.Rule.{Rule}
use Rattle.teapot_tree.specs.declared.rule.Rule.TheVariants.{Undeclared, Twice, WrongType, ArgCount, NoDefault, ContDropped}
use Rattle.teapot_tree.specs.declared.rule.Rule.TheVariants.{ResumeNotLast, ResumeForeign, AfterSuspend, NoData, TooManySends}
use Rattle.teapot_tree.specs.declared.rule.Rule.TheVariants.{NotTwoStarts}
use Rattle.teapot_tree.specs.Rules.{Any, Breaks, rank, IsFirstBreak, IsAccepted}
use Rattle.teapot_tree.specs.Grammar.{IsTree}
use Rattle.teapot_rules.specs.declared.fault.Fault.{Fault}
use Rattle.teapot_rules.specs.Faults.{lines}
use Rattle.teapot_rules.specs.Firsts.{fault, sooner, first_of_rules, all_rules}
use Rattle.teapot_rules.specs.Lists.{In, lesser, least}
use Rattle.teapot_rules.proofs.Faulty.{lines-are}

-- ---- the least of some lines

abbrev IsLeast : List ℕ → Option ℕ → Type 0
IsLeast xs None = (l : ℕ) → In l xs → ⊥
IsLeast xs (Some n) = In n xs × ((l : ℕ) → In l xs → n ≤ l)

which : (x n : ℕ) → (min x n ≡ x) ⊎ (min x n ≡ n)
which x n = elim (cases_lt x n) [ inl lt ↦ inl (omega arith) | inr ge ↦ inr (omega arith) ]

least-step : (x : ℕ) (xs : List ℕ) (o : Option ℕ) → IsLeast xs o → IsLeast (x ∷ xs) (lesser (Some x) o)
least-step x xs None h = (inl refl, λ l i. elim i [ inl e ↦ omega (arith, e) | inr j ↦ absurd (h l j) ])
least-step x xs (Some n) h = (
  elim (which x n) [ inl e ↦ inl (sym e) | inr e ↦ inr (subst (λ z. In z xs) (sym e) h.0) ],
  λ l i. elim i [ inl e ↦ omega (arith, e) | inr j ↦ let k = h.1 l j in omega arith ],
)

least-is : (xs : List ℕ) → IsLeast xs (least xs)
least-is [] = λ l i. i
least-is (x ∷ xs) = least-step x xs (least xs) (least-is xs)

-- ---- the first of some rules

abbrev Before : ℕ → Rule → ℕ → Rule → Type 0
Before line rule l r = (line < l) ⊎ ((line ≡ l) × (rank rule ≤ rank r))

abbrev Among : Rule → List Rule → Type 0
Among r rs = Any (λ q. q ≡ r) rs

abbrev FirstOf : Protocol → List Rule → Option Fault → Type 0
FirstOf p rs None = (l : ℕ) (r : Rule) → Among r rs → Breaks p l r → ⊥
FirstOf p rs (Some f) = Breaks p f.line f.rule × ((l : ℕ) (r : Rule) → Among r rs → Breaks p l r → Before f.line f.rule l r)

abbrev Ascends : Rule → List Rule → Type 0
Ascends q rs = Each (λ r. rank q ≤ rank r) rs

ascends-at : (q r : Rule) (rs : List Rule) → Ascends q rs → Among r rs → rank q ≤ rank r
ascends-at q r [] a i = absurd i
ascends-at q r (s ∷ rs) a (inl e) = subst (λ z. rank q ≤ rank z) e a.0
ascends-at q r (s ∷ rs) a (inr i) = ascends-at q r rs a.1 i

abbrev LeastOf : Protocol → Rule → Option ℕ → Type 0
LeastOf p r None = (l : ℕ) → Breaks p l r → ⊥
LeastOf p r (Some n) = Breaks p n r × ((l : ℕ) → Breaks p l r → n ≤ l)

least-of : (p : Protocol) (r : Rule) (o : Option ℕ) → IsLeast (lines p r) o → LeastOf p r o
least-of p r None h = λ l b. h l ((lines-are p r l).1 b)
least-of p r (Some n) h = ((lines-are p r n).0 h.0, λ l b. h.1 l ((lines-are p r l).1 b))

along : (p : Protocol) (q r : Rule) (l : ℕ) → q ≡ r → Breaks p l r → Breaks p l q
along p q r l e b = subst (λ z. Breaks p l z) (sym e) b

chosen : (p : Protocol) (q : Rule) (rs : List Rule) (n : ℕ) (f : Fault) (b : Bool) → nat_le n f.line ≡ b → Ascends q rs →
    LeastOf p q (Some n) → FirstOf p rs (Some f) → FirstOf p (q ∷ rs) (if b then Some (fault n q) else Some f)
chosen p q rs n f true e a h k = (
  h.0,
  λ l r i b. elim i [
    | inl d ↦ let m = h.1 l (along p q r l d b) in let z : rank q ≤ rank r =
        subst (λ y. rank q ≤ rank y) d (omega arith) in elim (cases_lt n l) [ inl lt ↦ inl lt | inr ge ↦ inr (omega arith, z) ]
    | inr j ↦
        let m = k.1 l r j b in
        let w : n ≤ f.line = leb-true n f.line e in
        let z = ascends-at q r rs a j in
        elim (cases_lt n l) [
          | inl lt ↦ inl lt
          | inr ge ↦ inr
              (elim m [ inl u ↦ absurd (omega arith) | inr u ↦ omega (arith, u.0) ], z)
        ]
  ],
)
chosen p q rs n f false e a h k = (
  k.0,
  λ l r i b. elim i [
    | inl d ↦ let m = h.1 l (along p q r l d b) in let w : f.line < n = leb-false n f.line e in inl (omega arith)
    | inr j ↦ k.1 l r j b
  ],
)

step : (p : Protocol) (q : Rule) (rs : List Rule) (o : Option ℕ) (later : Option Fault) → Ascends q rs → LeastOf p q o →
    FirstOf p rs later → FirstOf p (q ∷ rs) (sooner o q later)
step p q rs None None a h k = λ l r i b. elim i [ inl d ↦ h l (along p q r l d b) | inr j ↦ k l r j b ]
step p q rs None (Some f) a h k = (k.0, λ l r i b. elim i [ inl d ↦ absurd (h l (along p q r l d b)) | inr j ↦ k.1 l r j b ])
step p q rs (Some n) None a h k = (
  h.0,
  λ l r i b. elim i [
    | inl d ↦ let m = h.1 l (along p q r l d b) in let z : rank q ≤ rank r =
        subst (λ y. rank q ≤ rank y) d (omega arith) in elim (cases_lt n l) [ inl lt ↦ inl lt | inr ge ↦ inr (omega arith, z) ]
    | inr j ↦ absurd (k l r j b)
  ],
)
step p q rs (Some n) (Some f) a h k = chosen p q rs n f (nat_le n f.line) refl a h k

abbrev Sorted : List Rule → Type 0
Sorted [] = Unit {0}
Sorted (r ∷ rs) = Ascends r rs × Sorted rs

firsts : (p : Protocol) (rs : List Rule) → Sorted rs → FirstOf p rs (first_of_rules p rs)
firsts p [] s = λ l r i b. absurd i
firsts p (r ∷ rs) s = step p r rs (least (lines p r)) (first_of_rules p rs) s.0
    (least-of p r (least (lines p r)) (least-is (lines p r))) (firsts p rs s.1)

sorted : Sorted all_rules
sorted = (
  (
    lit≤ tt,
    (
      lit≤ tt,
      (lit≤ tt, (lit≤ tt, (lit≤ tt, (lit≤ tt, (lit≤ tt, (lit≤ tt, (lit≤ tt, (lit≤ tt, (lit≤ tt, tt))))))))),
    ),
  ),
  (
    (lit≤ tt, (lit≤ tt, (lit≤ tt, (lit≤ tt, (lit≤ tt, (lit≤ tt, (lit≤ tt, (lit≤ tt, (lit≤ tt, (lit≤ tt, tt)))))))))),
    (
      (lit≤ tt, (lit≤ tt, (lit≤ tt, (lit≤ tt, (lit≤ tt, (lit≤ tt, (lit≤ tt, (lit≤ tt, (lit≤ tt, tt))))))))),
      (
        (lit≤ tt, (lit≤ tt, (lit≤ tt, (lit≤ tt, (lit≤ tt, (lit≤ tt, (lit≤ tt, (lit≤ tt, tt)))))))),
        (
          (lit≤ tt, (lit≤ tt, (lit≤ tt, (lit≤ tt, (lit≤ tt, (lit≤ tt, (lit≤ tt, tt))))))),
          (
            (lit≤ tt, (lit≤ tt, (lit≤ tt, (lit≤ tt, (lit≤ tt, (lit≤ tt, tt)))))),
            (
              (lit≤ tt, (lit≤ tt, (lit≤ tt, (lit≤ tt, (lit≤ tt, tt))))),
              (
                (lit≤ tt, (lit≤ tt, (lit≤ tt, (lit≤ tt, tt)))),
                (
                  (lit≤ tt, (lit≤ tt, (lit≤ tt, tt))),
                  ((lit≤ tt, (lit≤ tt, tt)), ((lit≤ tt, tt), (tt, tt))),
                ),
              ),
            ),
          ),
        ),
      ),
    ),
  ),
)

all-rules : (r : Rule) → Among r all_rules
all-rules Undeclared = inl refl
all-rules Twice = inr (inl refl)
all-rules WrongType = inr (inr (inl refl))
all-rules ArgCount = inr (inr (inr (inl refl)))
all-rules NoDefault = inr (inr (inr (inr (inl refl))))
all-rules ContDropped = inr (inr (inr (inr (inr (inl refl)))))
all-rules ResumeNotLast = inr (inr (inr (inr (inr (inr (inl refl))))))
all-rules ResumeForeign = inr (inr (inr (inr (inr (inr (inr (inl refl)))))))
all-rules AfterSuspend = inr (inr (inr (inr (inr (inr (inr (inr (inl refl))))))))
all-rules NoData = inr (inr (inr (inr (inr (inr (inr (inr (inr (inl refl)))))))))
all-rules TooManySends = inr (inr (inr (inr (inr (inr (inr (inr (inr (inr (inl refl))))))))))
all-rules NotTwoStarts = inr (inr (inr (inr (inr (inr (inr (inr (inr (inr (inr (inl refl)))))))))))

first-broken : (p : Protocol) (o : Option Fault) (f : Fault) → o ≡ Some f → FirstOf p all_rules o → IsFirstBreak p f.line f.rule
first-broken p None f e h = absurd (cc)
first-broken p (Some g) f e h =
    let k : g ≡ f = cc in
    subst (λ (z : Fault). IsFirstBreak p z.line z.rule) k (record { broken = h.0; first = λ l r b. h.1 l r (all-rules r) b })

pub is_first : (p : Protocol) (f : Fault) → first_of_rules p all_rules ≡ Some f → IsFirstBreak p f.line f.rule
is_first p f e = first-broken p (first_of_rules p all_rules) f e (firsts p all_rules sorted)

none-broken : (p : Protocol) (o : Option Fault) → o ≡ None → FirstOf p all_rules o → (l : ℕ) (r : Rule) → Breaks p l r → ⊥
none-broken p None e h l r b = h l r (all-rules r) b
none-broken p (Some f) e h l r b = absurd (cc)

pub is_accepted : (p : Protocol) → IsTree p → first_of_rules p all_rules ≡ None → IsAccepted p
is_accepted p t e = record { tree = t; keeps = none-broken p (first_of_rules p all_rules) e (firsts p all_rules sorted) }
