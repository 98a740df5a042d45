-- Arguments against the types that are declared for their places, an argument at a time.
use Rattle.std.proofs.Common.{◌≡◌, ℕ, zero, suc, ◌+◌, ◌<◌, ◌≤◌, true, false, List, [], ◌∷◌, map, drop, length, get_or, Option}
use Rattle.std.proofs.Common.{refl, ap, sym, ◌∙◌, add-one}
use Rattle.std.specs.Prelude.{◌&&◌}
use Rattle.std.specs.List.{slice_get}
use Rattle.std.proofs.Math.ListN.{drop_of_length-le}
use Rattle.std.proofs.lemmas.List.{drop_more}
use Rattle.teapot_tree.specs.declared.expr.Expr.{Expr}
use Rattle.teapot_tree.specs.declared.protocol.ValType.{ValType}
use Rattle.teapot_tree.specs.Rules.{are_fit, is_fit}

at-drop : (ts : List ValType) (i : ℕ) → slice_get (drop i ts) 0 ≡ slice_get ts i
at-drop [] zero = refl
at-drop [] (suc i) = refl
at-drop (t ∷ ts) zero = refl
at-drop (t ∷ ts) (suc i) = at-drop ts i

rest-drop : (ts : List ValType) (i : ℕ) → drop 1 (drop i ts) ≡ drop (suc i) ts
rest-drop [] zero = refl
rest-drop [] (suc i) = refl
rest-drop (t ∷ ts) zero = refl
rest-drop (t ∷ ts) (suc i) = rest-drop ts i

fit-first : (ts : List ValType) (a : Option ValType) (more : List (Option ValType)) →
    are_fit ts (a ∷ more) ≡ (is_fit (slice_get ts 0) a && are_fit (drop 1 ts) more)
fit-first [] a more = refl
fit-first (t ∷ ts) a more = refl

module _ (ts : List ValType) (f : Expr → Option ValType) (es : List Expr) (i : ℕ) where
  fit-step : (e : Expr) → i < length es → e ≡ get_or es i e →
      are_fit (drop i ts) (map f (drop i es))
      ≡ (is_fit (slice_get ts i) (f e) && are_fit (drop (i + 1) ts) (map f (drop (i + 1) es)))
  fit-step e lt is =
      ap (λ z. are_fit (drop i ts) (map f z)) (drop_more es i e lt)
      ∙ ap (λ z. are_fit (drop i ts) (f z ∷ map f (drop (i + 1) es))) (sym is)
      ∙ fit-first (drop i ts) (f e) (map f (drop (i + 1) es))
      ∙ ap (λ z. is_fit z (f e) && are_fit (drop 1 (drop i ts)) (map f (drop (i + 1) es))) (at-drop ts i)
      ∙ ap (λ z. is_fit (slice_get ts i) (f e) && are_fit z (map f (drop (i + 1) es)))
      (rest-drop ts i ∙ ap (λ z. drop z ts) (sym (add-one i)))

  -- an argument that does not fit
  pub fit_here : (e : Expr) → i < length es → e ≡ get_or es i e →
      are_fit ts (map f es) ≡ are_fit (drop i ts) (map f (drop i es)) → is_fit (slice_get ts i) (f e) ≡ false →
      false ≡ are_fit ts (map f es)
  fit_here e lt is same misses = sym (same ∙ fit-step e lt is
      ∙ ap (λ z. z && are_fit (drop (i + 1) ts) (map f (drop (i + 1) es))) misses)

  -- one that does
  pub fit_past : (e : Expr) → i < length es → e ≡ get_or es i e →
      are_fit ts (map f es) ≡ are_fit (drop i ts) (map f (drop i es)) → is_fit (slice_get ts i) (f e) ≡ true
      → are_fit ts (map f es) ≡ are_fit (drop (i + 1) ts) (map f (drop (i + 1) es))
  fit_past e lt is same fits = same ∙ fit-step e lt is ∙ ap (λ z. z && are_fit (drop (i + 1) ts) (map f (drop (i + 1) es))) fits

  pub fit_end : length es ≤ i → are_fit ts (map f es) ≡ are_fit (drop i ts) (map f (drop i es)) → true ≡ are_fit ts (map f es)
  fit_end le same = sym (same ∙ ap (λ z. are_fit (drop i ts) (map f z)) (drop_of_length-le es le))
