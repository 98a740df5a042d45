-- There is one merge of logs.
use Rattle.std.proofs.Common.{◌≡◌, ◌≢◌, ℕ, zero, suc, ◌<◌, ◌≤◌, Bool, true, false, if◌then◌else◌, List, [], ◌∷◌, ◌⊎◌, arith}
use Rattle.std.proofs.Common.{refl, ap, sym, ◌∙◌, subst, inl, inr}
use Rattle.std.proofs.lemmas.Bool.{cases_eq, cases_lt}
use Rattle.std.proofs.lemmas.Bool.Decides.{nat_tests}
use Rattle.std.specs.List.{filter}
use Rattle.tw_base.specs.declared.entry.Entry.{Entry}
use Rattle.tw_base.specs.Lists.{Each}
use Rattle.dsm_runs.specs.Laws.{IsLog}
use Rattle.dsm_runs.specs.Merges.{Before, IsSorted, IsMerge, is_of, comes_before, insert, meld, merged}
use Rattle.dsm_runs.proofs.Lists.{Each-implied, Each-filter}
use Rattle.dsm_runs.proofs.Merging.{of_here, of_other}

goes_before : (a b : Entry) → comes_before a b ≡ true → Before a b
goes_before a b h = grind (arith, nat_tests)

goes_behind : (a b : Entry) → comes_before a b ≡ false → (b.stamp < a.stamp) ⊎ (b.stamp ≡ a.stamp) × (b.node ≤ a.node)
goes_behind a b h = grind (arith, nat_tests)

same_order : (a b : Entry) → a.node ≢ b.node → comes_before a b ≡ false → Before b a
same_order a b d h = go (goes_behind a b h)
  where
    go : (b.stamp < a.stamp) ⊎ (b.stamp ≡ a.stamp) × (b.node ≤ a.node) → Before b a
    go (inl x) = inl x
    go (inr x) = inr (x.0, omega arith)

before_more : (a b c : Entry) → Before a b → Before b c → Before a c
before_more a b c (inl h) (inl k) = inl (omega arith)
before_more a b c (inl h) (inr k) = inl (omega arith)
before_more a b c (inr h) (inl k) = inl (omega arith)
before_more a b c (inr h) (inr k) = inr (omega arith, omega arith)

-- what e may be put into: entries of its own node are all later
abbrev IsLater : Entry → Entry → Type 0
IsLater e x = x.node ≡ e.node → e.stamp < x.stamp

each_insert : (P : Entry → Type 0) (e : Entry) (xs : List Entry) → P e → Each P xs → Each P (insert e xs)
each_insert P e [] h k = (h, tt)
each_insert P e (x ∷ xs) h k = go (comes_before e x) (each_insert P e xs h k.1)
  where
    go : (b : Bool) → Each P (insert e xs) → Each P (if b then e ∷ x ∷ xs else x ∷ insert e xs)
    go true r = (h, k)
    go false r = (k.0, r)

insert_sorted : (e : Entry) (xs : List Entry) → Each (IsLater e) xs → IsSorted xs → IsSorted (insert e xs)
insert_sorted e [] h k = (tt, tt)
insert_sorted e (x ∷ xs) h k = go (comes_before e x) refl (insert_sorted e xs h.1 k.1)
  where
    go : (b : Bool) → comes_before e x ≡ b → IsSorted (insert e xs) → IsSorted (if b then e ∷ x ∷ xs else x ∷ insert e xs)
    go true q r = let now : Before e x = goes_before e x q in
        ((now, Each-implied (Before x) (Before e) xs (λ y z. before_more e x y now z) k.0), k)
    go false q r = (each_insert (Before x) e xs (behind (goes_behind e x q)) k.0, r)
      where
        behind : (x.stamp < e.stamp) ⊎ (x.stamp ≡ e.stamp) × (x.node ≤ e.node) → Before x e
        behind (inl z) = inl z
        behind (inr z) = elim (cases_eq x.node e.node) [
          | inl at ↦ absurd (omega (arith, h.0 at, z.0))
          | inr d ↦ inr (z.0, omega arith)
        ]

insert_here : (e : Entry) (xs : List Entry) → Each (IsLater e) xs →
    filter (is_of e.node) (insert e xs) ≡ e ∷ filter (is_of e.node) xs
insert_here e [] h = of_here e []
insert_here e (x ∷ xs) h = go (comes_before e x) refl (insert_here e xs h.1)
  where
    go : (b : Bool) → comes_before e x ≡ b → filter (is_of e.node) (insert e xs) ≡ e ∷ filter (is_of e.node) xs →
        filter (is_of e.node) (if b then e ∷ x ∷ xs else x ∷ insert e xs) ≡ e ∷ filter (is_of e.node) (x ∷ xs)
    go true q r = of_here e (x ∷ xs)
    go false q r = elim (cases_eq x.node e.node) [
      | inl at ↦ absurd (later at (goes_behind e x q))
      | inr d ↦ of_other e.node x (insert e xs) (λ p. d (sym p)) ∙ r
          ∙ ap (λ (l : List Entry). e ∷ l) (sym (of_other e.node x xs (λ p. d (sym p))))
    ]
      where
        later : x.node ≡ e.node → (x.stamp < e.stamp) ⊎ (x.stamp ≡ e.stamp) × (x.node ≤ e.node) → ⊥
        later at (inl z) = omega (arith, h.0 at)
        later at (inr z) = omega (arith, h.0 at)

insert_other : (k : ℕ) (e : Entry) (xs : List Entry) → k ≢ e.node → filter (is_of k) (insert e xs) ≡ filter (is_of k) xs
insert_other k e [] d = of_other k e [] d
insert_other k e (x ∷ xs) d = go (comes_before e x) (insert_other k e xs d)
  where
    go : (b : Bool) → filter (is_of k) (insert e xs) ≡ filter (is_of k) xs →
        filter (is_of k) (if b then e ∷ x ∷ xs else x ∷ insert e xs) ≡ filter (is_of k) (x ∷ xs)
    go true r = of_other k e (x ∷ xs) d
    go false r = both (is_of k x)
      where
        both : (b : Bool) → (if b then x ∷ filter (is_of k) (insert e xs) else filter (is_of k) (insert e xs))
            ≡ (if b then x ∷ filter (is_of k) xs else filter (is_of k) xs)
        both true = ap (λ (l : List Entry). x ∷ l) r
        both false = r

each_meld : (P : Entry → Type 0) (es j : List Entry) → Each P es → Each P j → Each P (meld es j)
each_meld P [] j h k = k
each_meld P (e ∷ es) j h k = each_insert P e (meld es j) h.0 (each_meld P es j h.1 k)

abbrev NotOf : ℕ → Entry → Type 0
NotOf i x = x.node ≢ i

all_later : (i : ℕ) (e : Entry) (es j : List Entry) → IsLog i (e ∷ es) → Each (NotOf i) j → Each (IsLater e) (meld es j)
all_later i e es j h k =
    each_meld (IsLater e) es j (Each-implied (λ x. e.stamp < x.stamp) (IsLater e) es (λ x l at. l) h.rising.0)
    (Each-implied (NotOf i) (IsLater e) j (λ x d at. absurd (d (at ∙ h.nodes.0))) k)

rest_log : (i : ℕ) (e : Entry) (es : List Entry) → IsLog i (e ∷ es) → IsLog i es
rest_log i e es h = record { rising = h.rising.1; nodes = h.nodes.1 }

meld_sorted : (i : ℕ) (es j : List Entry) → IsLog i es → Each (NotOf i) j → IsSorted j → IsSorted (meld es j)
meld_sorted i [] j h k s = s
meld_sorted i (e ∷ es) j h k s = insert_sorted e (meld es j) (all_later i e es j h k) (meld_sorted i es j (rest_log i e es h) k s)

none_of : (i : ℕ) (j : List Entry) → Each (NotOf i) j → filter (is_of i) j ≡ []
none_of i [] h = refl
none_of i (x ∷ xs) h = of_other i x xs (λ q. h.0 (sym q)) ∙ none_of i xs h.1

meld_here : (i : ℕ) (es j : List Entry) → IsLog i es → Each (NotOf i) j → filter (is_of i) (meld es j) ≡ es
meld_here i [] j h k = none_of i j k
meld_here i (e ∷ es) j h k =
    subst (λ n. filter (is_of n) (insert e (meld es j)) ≡ e ∷ filter (is_of n) (meld es j)) h.nodes.0
    (insert_here e (meld es j) (all_later i e es j h k))
    ∙ ap (λ (l : List Entry). e ∷ l) (meld_here i es j (rest_log i e es h) k)

meld_other : (i k : ℕ) (es j : List Entry) → k ≢ i → IsLog i es → filter (is_of k) (meld es j) ≡ filter (is_of k) j
meld_other i k [] j d h = refl
meld_other i k (e ∷ es) j d h = insert_other k e (meld es j) (λ q. d (q ∙ h.nodes.0)) ∙ meld_other i k es j d (rest_log i e es h)

abbrev Below : ℕ → Entry → Type 0
Below n x = x.node < n

merged_below : (n : ℕ) (logs : ℕ → List Entry) → ((i : ℕ) → i < n → IsLog i (logs i)) → Each (Below n) (merged n logs)
merged_below zero logs h = tt
merged_below (suc n) logs h =
    each_meld (Below (suc n)) (logs n) (merged n logs) (Each-implied (λ x. x.node ≡ n) (Below (suc n)) (logs n)
    (λ x q. omega (arith, q)) (h n (omega arith)).nodes)
    (Each-implied (Below n) (Below (suc n)) (merged n logs) (λ x q. omega (arith, q))
    (merged_below n logs (λ i l. h i (omega arith))))

others_not : (n : ℕ) (j : List Entry) → Each (Below n) j → Each (NotOf n) j
others_not n j h = Each-implied (Below n) (NotOf n) j (λ x l q. omega (arith, l, q)) h

pub merged_is_merge : (n : ℕ) (logs : ℕ → List Entry) → ((i : ℕ) → i < n → IsLog i (logs i)) → IsMerge n logs (merged n logs)
merged_is_merge zero logs h = record { parts = λ i l. absurd (omega arith); within = tt; sorted = tt }
merged_is_merge (suc n) logs h =
    let before : IsMerge n logs (merged n logs) = merged_is_merge n logs (λ i l. h i (omega arith)) in
    let mine : IsLog n (logs n) = h n (omega arith) in
    record {
      parts = λ i l. elim (cases_eq i n) [
        | inl q ↦ rw q (meld_here n (logs n) (merged n logs) mine (others_not n (merged n logs) before.within))
        | inr d ↦ meld_other n i (logs n) (merged n logs) d mine ∙ before.parts i (omega arith)
      ];
      within = merged_below (suc n) logs h;
      sorted = meld_sorted n (logs n) (merged n logs) mine (others_not n (merged n logs) before.within) before.sorted;
    }

entry_head : (x y : Entry) (xs ys : List Entry) → x ∷ xs ≡ y ∷ ys → x ≡ y
entry_head x y xs ys h = cc

entry_tail : (x y : Entry) (xs ys : List Entry) → x ∷ xs ≡ y ∷ ys → xs ≡ ys
entry_tail x y xs ys h = cc

not_nothing : (x : Entry) (xs : List Entry) → x ∷ xs ≡ [] → ⊥
not_nothing x xs h = cc

not_both : (a b : Entry) → Before a b → Before b a → ⊥
not_both a b (inl h) (inl k) = omega arith
not_both a b (inl h) (inr k) = omega arith
not_both a b (inr h) (inl k) = omega arith
not_both a b (inr h) (inr k) = omega arith

-- x stands behind y, if it is the first of its node there
is_behind : (x y : Entry) (rest ys : List Entry) → x.node ≢ y.node → x ∷ rest ≡ filter (is_of x.node) (y ∷ ys) →
    Each (Before y) ys → Before y x
is_behind x y rest ys d h s =
    let all : Each (Before y) (x ∷ rest) = subst (λ (l : List Entry). Each (Before y) l) (sym (h ∙ of_other x.node y ys d))
    (Each-filter (Before y) (is_of x.node) ys s) in
    all.0

one_merge : (xs ys : List Entry) → ((k : ℕ) → filter (is_of k) xs ≡ filter (is_of k) ys) → IsSorted xs → IsSorted ys → xs ≡ ys
one_merge [] [] h s t = refl
one_merge [] (y ∷ ys) h s t = absurd (not_nothing y (filter (is_of y.node) ys) (sym (of_here y ys) ∙ sym (h y.node)))
one_merge (x ∷ xs) [] h s t = absurd (not_nothing x (filter (is_of x.node) xs) (sym (of_here x xs) ∙ h x.node))
one_merge (x ∷ xs) (y ∷ ys) h s t = elim (cases_eq x.node y.node) [
  | inl q ↦
      let mine : x ∷ filter (is_of x.node) xs ≡ y ∷ filter (is_of x.node) ys = sym (of_here x xs) ∙ h x.node
      ∙ subst (λ n. filter (is_of n) (y ∷ ys) ≡ y ∷ filter (is_of n) ys) (sym q) (of_here y ys) in
      ap (λ (e : Entry). e ∷ xs) (entry_head _ _ _ _ mine) ∙ ap (λ (l : List Entry). y ∷ l)
      (one_merge xs ys (λ k. elim (cases_eq k x.node) [
        | inl at ↦ rw at (entry_tail _ _ _ _ mine)
        | inr d ↦ sym (of_other k x xs d) ∙ h k ∙ of_other k y ys (λ p. d (p ∙ sym q))
      ]) s.1 t.1)
  | inr d ↦ absurd (not_both y x
      (is_behind x y (filter (is_of x.node) xs) ys d (sym (of_here x xs) ∙ h x.node) t.0)
      (is_behind y x (filter (is_of y.node) ys) xs (λ q. d (sym q)) (sym (of_here y ys) ∙ sym (h y.node)) s.0))
]

pub same_merge : (n : ℕ) (logs : ℕ → List Entry) (first second : List Entry) → IsMerge n logs first → IsMerge n logs second →
    first ≡ second
same_merge n logs first second p q = one_merge first second (λ k. elim (cases_lt k n) [
  | inl h ↦ p.parts k h ∙ sym (q.parts k h)
  | inr h ↦ none_of k first (beyond k h first p.within) ∙ sym (none_of k second (beyond k h second q.within))
]) p.sorted q.sorted
  where
    beyond : (k : ℕ) → n ≤ k → (j : List Entry) → Each (Below n) j → Each (NotOf k) j
    beyond k far j h = Each-implied (Below n) (NotOf k) j (λ x l at. omega (arith, l, at, far)) h
