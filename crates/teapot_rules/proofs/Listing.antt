-- Lists of lines, put together.
use Rattle.std.proofs.Common.{◌≡◌, ℕ, Bool, true, false, List, [], ◌∷◌, ◌++◌, refl, inl, inr, ◌⊎◌}
use Rattle.std.specs.Prelude.{◌↔◌}
use Rattle.std.specs.List.{flat_map}
use Rattle.teapot_tree.specs.Rules.{Any}
use Rattle.teapot_rules.specs.Lists.{In, Lists, line_if}

-- ---- some item of a list

pub any-left : {X : Type 0} (P : X → Type 0) (xs ys : List X) → Any P xs → Any P (xs ++ ys)
any-left P [] ys h = absurd h
any-left P (x ∷ xs) ys (inl h) = inl h
any-left P (x ∷ xs) ys (inr h) = inr (any-left P xs ys h)

pub any-right : {X : Type 0} (P : X → Type 0) (xs ys : List X) → Any P ys → Any P (xs ++ ys)
any-right P [] ys h = h
any-right P (x ∷ xs) ys h = inr (any-right P xs ys h)

pub any-split : {X : Type 0} (P : X → Type 0) (xs ys : List X) → Any P (xs ++ ys) → Any P xs ⊎ Any P ys
any-split P [] ys h = inr h
any-split P (x ∷ xs) ys (inl h) = inl (inl h)
any-split P (x ∷ xs) ys (inr h) = elim (any-split P xs ys h) [ inl k ↦ inl (inr k) | inr k ↦ inr k ]

pub any-each : {X : Type 0} (P Q : X → Type 0) (f : (x : X) → P x → Q x) (xs : List X) → Any P xs → Any Q xs
any-each P Q f [] h = absurd h
any-each P Q f (x ∷ xs) (inl h) = inl (f x h)
any-each P Q f (x ∷ xs) (inr h) = inr (any-each P Q f xs h)

-- ---- which lines a list has

pub lists-none : Lists [] (λ line. ⊥)
lists-none line = (λ h. h, λ h. h)

pub lists-if : (b : Bool) (n : ℕ) → Lists (line_if b n) (λ line. (n ≡ line) × (b ≡ true))
lists-if true n line = (λ h. elim h [ inl k ↦ (k, refl) | inr k ↦ absurd k ], λ h. inl h.0)
lists-if false n line = (λ h. absurd h, λ h. absurd cc)

pub lists-append : {P Q : ℕ → Type 0} (xs ys : List ℕ) → Lists xs P → Lists ys Q → Lists (xs ++ ys) (λ line. P line ⊎ Q line)
lists-append xs ys f g line = (
  λ h. elim (any-split (λ x. x ≡ line) xs ys h) [ inl k ↦ inl ((f line).0 k) | inr k ↦ inr ((g line).0 k) ],
  λ h. elim h [ inl k ↦ any-left (λ x. x ≡ line) xs ys ((f line).1 k) | inr k ↦ any-right (λ x. x ≡ line) xs ys ((g line).1 k) ],
)

pub lists-flat : {X : Type 0} (f : X → List ℕ) (P : X → ℕ → Type 0) → ((x : X) → Lists (f x) (P x)) → (xs : List X) →
    Lists (flat_map f xs) (λ line. Any (λ x. P x line) xs)
lists-flat f P each [] = lists-none
lists-flat f P each (x ∷ xs) = lists-append (f x) (flat_map f xs) (each x) (lists-flat f P each xs)

pub lists-other : {P Q : ℕ → Type 0} (xs : List ℕ) → Lists xs P → ((line : ℕ) → P line ↔ Q line) → Lists xs Q
lists-other xs f g line = (λ h. (g line).0 ((f line).0 h), λ h. (f line).1 ((g line).1 h))

pub lists-same : (xs : List ℕ) → Lists xs (λ line. In line xs)
lists-same xs line = (λ h. h, λ h. h)

pub lists-both : (xs ys : List ℕ) → Lists (xs ++ ys) (λ line. In line xs ⊎ In line ys)
lists-both xs ys = lists-append xs ys (lists-same xs) (lists-same ys)
