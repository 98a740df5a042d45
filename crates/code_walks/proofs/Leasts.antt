-- The least place of several.
use Rattle.std.proofs.Common.{◌≡◌, ℕ, ◌+◌, ◌<◌, ◌≤◌, ◌⊎◌, min, Option, Some, None, inl, inr, subst, arith}
use Rattle.std.proofs.lemmas.Bool.{cases_lt}
use Rattle.code_walks.specs.declared.parts.Part.{Part}
use Rattle.tw_base.specs.Lists.{lesser}
use Rattle.code_walks.specs.Least.{IsLeast}
use Rattle.code_walks.specs.Parts.{Within}

-- nowhere from one place up to another
abbrev pub NoneBefore : ℕ → ℕ → (ℕ → Type 0) → Type 0
NoneBefore from at P = (k : ℕ) → from ≤ k → k < at → P k → ⊥

pub none_before : (from : ℕ) (P : ℕ → Type 0) → NoneBefore from from P
none_before from P = λ k h l x. absurd (omega arith)

pub none_more : (from at : ℕ) (P : ℕ → Type 0) → NoneBefore from at P → (P at → ⊥) → NoneBefore from (at + 1) P
none_more from at P none here = λ k h l x. elim (cases_lt k at) [
  | inl lt ↦ none k h lt x
  | inr ge ↦ let e : k ≡ at = omega arith in here (subst P e x)
]

pub found : (part : Part) (P : ℕ → Type 0) (at : ℕ) → part.door.at ≤ at → at < part.end → NoneBefore part.door.at at P → P at →
    IsLeast (Within part P) (Some at)
found part P at from before none x = (
  record { from = from; before = before; holds = x },
  λ k w. elim (cases_lt k at) [ inl lt ↦ absurd (none k w.from lt w.holds) | inr ge ↦ ge ],
)

pub none_found : (part : Part) (P : ℕ → Type 0) (at : ℕ) → part.end ≤ at → NoneBefore part.door.at at P →
    IsLeast (Within part P) None
none_found part P at past none = λ k w. none k w.from (let h = w.before in omega arith) w.holds

pub same_least : (P Q : ℕ → Type 0) (o : Option ℕ) → ((k : ℕ) → P k → Q k) → ((k : ℕ) → Q k → P k) → IsLeast P o → IsLeast Q o
same_least P Q None to back h = λ k q. h k (back k q)
same_least P Q (Some a) to back h = (to a h.0, λ k q. h.1 k (back k q))

lesser_of : (P Q : ℕ → Type 0) (a b : ℕ) → P a → Q b → P (min a b) ⊎ Q (min a b)
lesser_of P Q a b x y = elim (cases_lt a b) [
  | inl lt ↦ inl (let e : a ≡ min a b = omega arith in subst P e x)
  | inr ge ↦ inr (let e : b ≡ min a b = omega arith in subst Q e y)
]

pub least_of_two : (P Q : ℕ → Type 0) (a b : Option ℕ) → IsLeast P a → IsLeast Q b → IsLeast (λ k. P k ⊎ Q k) (lesser a b)
least_of_two P Q None None h g = λ k x. elim x [ inl u ↦ h k u | inr v ↦ g k v ]
least_of_two P Q None (Some b) h g = (inr g.0, λ k x. elim x [ inl u ↦ absurd (h k u) | inr v ↦ g.1 k v ])
least_of_two P Q (Some a) None h g = (inl h.0, λ k x. elim x [ inl u ↦ h.1 k u | inr v ↦ absurd (g k v) ])
least_of_two P Q (Some a) (Some b) h g = (
  lesser_of P Q a b h.0 g.0,
  λ k x. elim x [
    | inl u ↦ let m = h.1 k u in let s : min a b ≤ k = omega arith in s
    | inr v ↦ let m = g.1 k v in let s : min a
        b ≤ k = omega arith in s
  ],
)

-- what is so far the least, and one thing more
pub least_more : (P Q R : ℕ → Type 0) (a b : Option ℕ) → ((k : ℕ) → P k → R k) → ((k : ℕ) → Q k → R k) →
    ((k : ℕ) → R k → P k ⊎ Q k) → IsLeast P a → IsLeast Q b → IsLeast R (lesser a b)
least_more P Q R a b f g back h i = same_least (λ k. P k ⊎ Q k) R (lesser a b)
    (λ k x. elim x [ inl u ↦ f k u | inr v ↦ g k v ]) back (least_of_two P Q a b h i)
