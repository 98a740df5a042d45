-- What stands twice.
use Rattle.std.proofs.Common.{◌≡◌, ℕ, Bool, true, false, List, [], ◌∷◌, ◌++◌, map, sym, ◌∙◌, inl, inr, ◌⊎◌}
use Rattle.std.specs.Prelude.{◌↔◌}
use Rattle.std.specs.List.{list_any}
use Rattle.std.proofs.lemmas.List.Folds.{list_any-append}
use Rattle.teapot_tree.specs.Rules.{Any, Again}
use Rattle.teapot_rules.specs.Lists.{In, Lists, line_if, again}
use Rattle.teapot_rules.proofs.Listing.{lists-if, lists-both}
use Rattle.teapot_rules.proofs.Follows.{or-split, or-left, or-right}

-- of the items, one whose name one of those that stand before them has stands at the line
abbrev Earlier : {X : Type 0} → (X → X → Bool) → (X → ℕ) → List X → ℕ → List X → Type 0
Earlier same line seen l xs = Any (λ x. (line x ≡ l) × (list_any (same x) seen ≡ true)) xs

-- one whose name is k does
abbrev Has : {X K : Type 0} → (X → ℕ) → (X → K) → K → ℕ → List X → Type 0
Has {K = K} line key k l xs = Any (λ (q : K × ℕ). (q.0 ≡ k) × (q.1 ≡ l)) (map (λ x. (key x, line x)) xs)

none_seen : {X : Type 0} (same : X → X → Bool) (line : X → ℕ) (l : ℕ) (xs : List X) → Earlier same line [] l xs → ⊥
none_seen same line l [] h = h
none_seen same line l (x ∷ xs) (inl h) = let k : false ≡ true = h.1 in absurd (cc)
none_seen same line l (x ∷ xs) (inr h) = none_seen same line l xs h

module _ {X K : Type 0} (same : X → X → Bool) (line : X → ℕ) (key : X → K)
    (is : (x y : X) → (same x y ≡ true) ↔ (key y ≡ key x)) where
  abbrev Pairs : List X → List (K × ℕ)
  Pairs xs = map (λ x. (key x, line x)) xs

  -- one more that stands before them
  split : (seen : List X) (x : X) (l : ℕ) (xs : List X) → Earlier same line (seen ++ x ∷ []) l xs →
      Earlier same line seen l xs ⊎ Has line key (key x) l xs
  split seen x l [] h = absurd h
  split seen x l (y ∷ xs) (inl h) =
      elim (or-split (list_any (same y) seen) (list_any (same y) (x ∷ []))
      (sym (list_any-append (same y) seen (x ∷ [])) ∙ h.1)) [
        | inl k ↦ inl (inl (h.0, k))
        | inr k ↦ elim (or-split (same y x) false k) [
          | inl j ↦ inr (inl (sym ((is y x).0 j), h.0))
          | inr j ↦ absurd (cc)
        ]
      ]
  split seen x l (y ∷ xs) (inr h) = elim (split seen x l xs h) [ inl k ↦ inl (inr k) | inr k ↦ inr (inr k) ]

  join-left : (seen : List X) (x : X) (l : ℕ) (xs : List X) → Earlier same line seen l xs →
      Earlier same line (seen ++ x ∷ []) l xs
  join-left seen x l [] h = absurd h
  join-left seen x l (y ∷ xs) (inl h) = inl (
    h.0,
    list_any-append (same y) seen (x ∷ [])
        ∙ or-left (list_any (same y) seen) (list_any (same y) (x ∷ [])) h.1,
  )
  join-left seen x l (y ∷ xs) (inr h) = inr (join-left seen x l xs h)

  join-right : (seen : List X) (x : X) (l : ℕ) (xs : List X) → Has line key (key x) l xs → Earlier same line (seen ++ x ∷ []) l xs
  join-right seen x l [] h = absurd h
  join-right seen x l (y ∷ xs) (inl h) =
      inl (
        h.1,
        list_any-append (same y) seen (x ∷ []) ∙ or-right (list_any (same y) seen) (list_any (same y) (x ∷ []))
            (or-left (same y x) false ((is y x).1 (sym h.0))),
      )
  join-right seen x l (y ∷ xs) (inr h) = inr (join-right seen x l xs h)

  at : (seen : List X) (x : X) (xs : List X) → Lists (again same line seen (x ∷ xs))
      (λ l. In l (line_if (list_any (same x) seen) (line x)) ⊎ In l (again same line (seen ++ x ∷ []) xs))
  at seen x xs = lists-both (line_if (list_any (same x) seen) (line x)) (again same line (seen ++ x ∷ []) xs)

  forth : (seen xs : List X) (l : ℕ) → In l (again same line seen xs) → Earlier same line seen l xs ⊎ Again (Pairs xs) l
  forth seen [] l h = absurd h
  forth seen (x ∷ xs) l h = elim ((at seen x xs l).0 h) [
    | inl k ↦ inl (inl ((lists-if (list_any (same x) seen) (line x) l).0 k))
    | inr k ↦ elim (forth (seen ++ x ∷ []) xs l k) [
      | inl j ↦ elim (split seen x l xs j) [ inl i ↦ inl (inr i) | inr i ↦ inr (inl i) ]
      | inr j ↦ inr (inr j)
    ]
  ]

  back : (seen xs : List X) (l : ℕ) → Earlier same line seen l xs ⊎ Again (Pairs xs) l → In l (again same line seen xs)
  back seen [] l (inl h) = absurd h
  back seen [] l (inr h) = absurd h
  back seen (x ∷ xs) l (inl (inl h)) = (at seen x xs l).1 (inl ((lists-if (list_any (same x) seen) (line x) l).1 h))
  back seen (x ∷ xs) l (inl (inr h)) = (at seen x xs l).1 (inr (back (seen ++ x ∷ []) xs l (inl (join-left seen x l xs h))))
  back seen (x ∷ xs) l (inr (inl h)) = (at seen x xs l).1 (inr (back (seen ++ x ∷ []) xs l (inl (join-right seen x l xs h))))
  back seen (x ∷ xs) l (inr (inr h)) = (at seen x xs l).1 (inr (back (seen ++ x ∷ []) xs l (inr h)))

  pub lists-again : (xs : List X) → Lists (again same line [] xs) (λ l. Again (Pairs xs) l)
  lists-again xs l = (
    λ h. elim (forth [] xs l h) [ inl k ↦ absurd (none_seen same line l xs k) | inr k ↦ k ],
    λ h. back [] xs l (inr h),
  )
