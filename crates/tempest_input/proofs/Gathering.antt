-- Reading one item after the other.
use Rattle.std.proofs.Common.{◌≡◌, ℕ, ◌+◌, ◌<◌, ◌≤◌, List, [], ◌∷◌, ◌++◌, length, drop, Result, Ok, Err, refl, sym, ap, ◌∙◌}
use Rattle.std.proofs.Common.{get_or, subst}
use Rattle.std.proofs.lemmas.List.{drop_all, drop_more}
use Rattle.tw_base.specs.Answers.{◌>>=◌, Fails}
use Rattle.tw_base.proofs.Answering.{Fails-along, Fails-is}
use Rattle.tempest_input.specs.declared.error.InputError.{InputError}
use Rattle.tempest_input.specs.Layout.{is_memory}
use Rattle.tempest_input.specs.Numbers.{gathered}

-- the next item of a list
pub next-of : {X : Type 0} (items : List X) (i : ℕ) (x : X) → i < length items → x ≡ get_or items i x →
    drop i items ≡ x ∷ drop (i + 1) items
next-of items i x lt is = drop_more items i x lt ∙ ap (λ z. z ∷ drop (i + 1) items) (sym is)

module _ {X Y : Type 0} (step : List Y → X → Result Y InputError) (done now : List Y) (is : now ≡ done) (items : List X)
    (i : ℕ) (x : X) (next : drop i items ≡ x ∷ drop (i + 1) items) where
  pub gathered-turn : (y : Y) (total : Result (List Y) InputError) → Ok y ≡ step now x →
      gathered step done (drop i items) ≡ total → gathered step (done ++ y ∷ []) (drop (i + 1) items) ≡ total
  unfolding gathered
  gathered-turn y total e so_far =
      let one : gathered step done (drop i items) ≡ gathered step (done ++ y ∷ []) (drop (i + 1) items) =
      rw (next, ← is, ← e) refl in
      sym one ∙ so_far

  pub gathered-fault : (e : InputError) (total : Result (List Y) InputError) → Err e ≡ step now x →
      gathered step done (drop i items) ≡ total → Fails is_memory e total
  unfolding gathered
  gathered-fault e total f so_far =
      let one : gathered step done (drop i items) ≡ Err e = rw (next, ← is, ← f) refl in
      Fails-is is_memory e total (sym so_far ∙ one)

pub gathered-end : {X Y : Type 0} (step : List Y → X → Result Y InputError) (done : List Y) (items : List X) (i : ℕ)
    (total : Result (List Y) InputError) → length items ≤ i → gathered step done (drop i items) ≡ total → total ≡ Ok done
unfolding gathered
gathered-end step done items i total le so_far =
    let one : gathered step done (drop i items) ≡ Ok done = rw (drop_all i items le) refl in
    sym so_far ∙ one

-- the same, where the step itself may run out of memory
module _ {X Y : Type 0} (step : List Y → X → Result Y InputError) (done : List Y) (items : List X) (i : ℕ) (x : X)
    (next : drop i items ≡ x ∷ drop (i + 1) items) where
  pub given-turn : (y : Y) (total : Result (List Y) InputError) → step done x ≡ Ok y →
      gathered step done (drop i items) ≡ total → gathered step (done ++ y ∷ []) (drop (i + 1) items) ≡ total
  unfolding gathered
  given-turn y total e so_far =
      let one : gathered step done (drop i items) ≡ gathered step (done ++ y ∷ []) (drop (i + 1) items) = rw (next, e) refl in
      sym one ∙ so_far

  pub given-fault : (e : InputError) (total : Result (List Y) InputError) → Fails is_memory e (step done x) →
      gathered step done (drop i items) ≡ total → Fails is_memory e total
  unfolding gathered
  given-fault e total due so_far = Fails-along is_memory e (step done x) total (λ f.
      let one : gathered step done (drop i items) ≡ Err e = rw (next, f) refl in
      sym so_far ∙ one) due

-- what each step keeps holds at the end
pub gathered-keeps : {X Y : Type 0} (P : List Y → Type 0) (step : List Y → X → Result Y InputError) →
    ((done : List Y) (x : X) (y : Y) → P done → step done x ≡ Ok y → P (done ++ y ∷ []))
    → (done : List Y) (items : List X) (ys : List Y) → P done → gathered step done items ≡ Ok ys → P ys
unfolding gathered
gathered-keeps P step keeps done [] ys h e =
    let same : done ≡ ys = cc e in
    subst P same h
gathered-keeps {X} {Y} P step keeps done (x ∷ items) ys h e =
    go (step done x) refl (λ y k f. gathered-keeps P step keeps (done ++ y ∷ []) items ys k f) e
  where
    go : (r : Result Y InputError) → step done x ≡ r → ((y : Y) → P (done ++ y ∷ []) →
        gathered step (done ++ y ∷ []) items ≡ Ok ys → P ys) → (r >>= λ y. gathered step (done ++ y ∷ []) items) ≡ Ok ys → P ys
    go (Ok y) is later f = later y (keeps done x y h is) f
    go (Err k) is later f = absurd (cc f)
