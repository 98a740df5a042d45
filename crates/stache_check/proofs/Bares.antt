-- Two lists seen as one, place by place; a choice with every line 0.
use Rattle.std.proofs.Common.{refl, ◌≡◌, ℕ, zero, suc, ◌<◌, ◌≤◌, List, [], ◌∷◌, map, length, Option, Some, None, ap, sym, ◌∙◌}
use Rattle.std.proofs.Common.{arith, get_or}
use Rattle.std.specs.Prelude.{◌↔◌}
use Rattle.tw_base.specs.declared.name.Name.{Name}
use Rattle.std.specs.Option.{option_map}
use Rattle.teapot_tree.specs.declared.expr.Expr.{Expr}
use Rattle.teapot_tree.specs.declared.stmt.Stmt.{Stmt, fold_out-Stmt}
use Rattle.teapot_tree.specs.declared.stmt.Do.{Do, roll-Do, out-Do, fold-roll-Do, map-Do}
use Rattle.teapot_tree.specs.declared.stmt.Do.TheOpen.{Do-F}
use Rattle.teapot_tree.specs.declared.stmt.Do.TheVariants as v
use Rattle.teapot_tree.specs.Bare.{bare, bare_all, bare_do}
use Rattle.stache_tree.specs.Code.{said}

pub both_at : {X Y Z : Type 0} (f : X → Z) (g : Y → Z) (a : List X) (b : List Y) (i : ℕ) (c : X) (d : Y) → i < length a →
    i < length b → map f a ≡ map g b → f (get_or a i c) ≡ g (get_or b i d)
both_at f g [] b i c d lt lt' e = absurd (omega arith)
both_at f g (x ∷ a) [] i c d lt lt' e = absurd (omega arith)
both_at f g (x ∷ a) (y ∷ b) zero c d lt lt' e = cc
both_at f g (x ∷ a) (y ∷ b) (suc i) c d lt lt' e = both_at f g a b i c d (omega arith) (omega arith) (cc)

bare_do-roll : (l : Do-F Do Stmt) → bare_do (roll-Do l) ≡ roll-Do (map-Do Do Stmt Do Stmt bare_do bare l)
unfolding bare bare_do
bare_do-roll l = fold-roll-Do Do Stmt roll-Do (λ s. record { what = s.what; line = 0 }) l

bare-If : (e : Expr) (xs : List Stmt) (o : Option (List Stmt)) →
    bare_do (v.If e xs o) ≡ v.If e (bare_all xs) (option_map bare_all o)
bare-If e xs None = ap bare_do (sym (v.rolls-If e xs None)) ∙ bare_do-roll (Do-F.If e xs None) ∙ v.rolls-If e (bare_all xs) None
bare-If e xs (Some ys) = ap bare_do (sym (v.rolls-If e xs (Some ys))) ∙ bare_do-roll (Do-F.If e xs (Some ys))
    ∙ v.rolls-If e (bare_all xs) (Some (bare_all ys))

bare-what : (s : Stmt) → bare s ≡ record { what = bare_do s.what; line = 0 }
unfolding bare bare_do
bare-what s = fold_out-Stmt Do Stmt roll-Do (λ s. record { what = s.what; line = 0 }) s

-- an If without Else that is told by its test and branch
pub told-If : (s : Stmt) (e f : Expr) (xs ys : List Stmt) (o : Option (List Stmt)) → s.what ≡ v.If e xs o →
    (bare s ≡ said (Do-F.If f ys None)) ↔ ((e ≡ f) × (bare_all xs ≡ ys) × (o ≡ None))
told-If s e f xs ys o i =
    let k : bare s ≡ record { what = v.If e (bare_all xs) (option_map bare_all o); line = 0 } = bare-what s
    ∙ ap (λ z. record { what = z; line = 0 }) (ap bare_do i ∙ bare-If e xs o) in (
      λ h.
          let w : v.If e (bare_all xs) (option_map bare_all o) ≡ roll-Do (Do-F.If f ys None) =
          ap (λ (z : Stmt). z.what) (sym k ∙ h) in
          let q : Do-F.If e (bare_all xs) (option_map bare_all o) ≡ Do-F.If f ys None =
          sym (v.outs-If e (bare_all xs) (option_map bare_all o)) ∙ ap out-Do (w ∙ v.rolls-If f ys None)
          ∙ v.outs-If f ys None in
          (cc, cc, none_back o (cc)),
      λ h. k ∙ ap (λ z. record { what = z; line = 0 }) (ap (λ z. v.If z (bare_all xs) (option_map bare_all o)) h.0
          ∙ ap (λ z. v.If f z (option_map bare_all o)) h.1 ∙ ap (λ z. v.If f ys (option_map bare_all z)) h.2
          ∙ sym (v.rolls-If f ys None)),
    )
  where
    none_back : (o : Option (List Stmt)) → option_map bare_all o ≡ None → o ≡ None
    none_back None e = refl
    none_back (Some x) e = absurd cc

bare-ForEach : (n : Name) (e : Expr) (xs : List Stmt) → bare_do (v.ForEach n e xs) ≡ v.ForEach n e (bare_all xs)
bare-ForEach n e xs = ap bare_do (sym (v.rolls-ForEach n e xs)) ∙ bare_do-roll (Do-F.ForEach n e xs)
    ∙ v.rolls-ForEach n e (bare_all xs)

-- a loop that does nothing, told by its variable and its set
pub told-ForEach : (s : Stmt) (n m : Name) (e f : Expr) (xs : List Stmt) → s.what ≡ v.ForEach n e xs →
    (bare s ≡ said (Do-F.ForEach m f [])) ↔ ((n ≡ m) × (e ≡ f) × (xs ≡ []))
told-ForEach s n m e f xs i =
    let k : bare s ≡ record { what = v.ForEach n e (bare_all xs); line = 0 } = bare-what s
    ∙ ap (λ z. record { what = z; line = 0 }) (ap bare_do i ∙ bare-ForEach n e xs) in (
      λ h.
          let w : v.ForEach n e (bare_all xs) ≡ roll-Do (Do-F.ForEach m f []) = ap (λ (z : Stmt). z.what) (sym k ∙ h) in
          let q : Do-F.ForEach n e (bare_all xs) ≡ Do-F.ForEach m f [] = sym (v.outs-ForEach n e (bare_all xs))
          ∙ ap out-Do (w ∙ v.rolls-ForEach m f []) ∙ v.outs-ForEach m f [] in
          (cc, cc, nothing_back xs (cc)),
      λ h. k ∙ ap (λ z. record { what = z; line = 0 }) (ap (λ z. v.ForEach z e (bare_all xs)) h.0
          ∙ ap (λ z. v.ForEach m z (bare_all xs)) h.1 ∙ ap (λ z. v.ForEach m f (bare_all z)) h.2
          ∙ sym (v.rolls-ForEach m f [])),
    )
  where
    nothing_back : (xs : List Stmt) → bare_all xs ≡ [] → xs ≡ []
    nothing_back [] e = refl
    nothing_back (x ∷ xs) e = absurd cc

-- ---- a list of five

pub map_five : {X Y : Type 0} (f : X → Y) (l : List X) (a b c d e : X) (p q r s t : Y) → 5 ≤ length l → length l < 6 →
    a ≡ get_or l 0 a → b ≡ get_or l 1 b → c ≡ get_or l 2 c → d ≡ get_or l 3 d → e ≡ get_or l 4 e →
    (map f l ≡ p ∷ q ∷ r ∷ s ∷ t ∷ []) ↔ ((f a ≡ p) × (f b ≡ q) × (f c ≡ r) × (f d ≡ s) × (f e ≡ t))
map_five f [] a b c d e p q r s t lo hi ia ib ic id ie = absurd (omega arith)
map_five f (v ∷ []) a b c d e p q r s t lo hi ia ib ic id ie = absurd (omega arith)
map_five f (v ∷ w ∷ []) a b c d e p q r s t lo hi ia ib ic id ie = absurd (omega arith)
map_five f (v ∷ w ∷ x ∷ []) a b c d e p q r s t lo hi ia ib ic id ie = absurd (omega arith)
map_five f (v ∷ w ∷ x ∷ y ∷ []) a b c d e p q r s t lo hi ia ib ic id ie = absurd (omega arith)
map_five f (v ∷ w ∷ x ∷ y ∷ z ∷ []) a b c d e p q r s t lo hi ia ib ic id ie = (λ h. (cc, cc, cc, cc, cc), λ h. cc)
map_five f (v ∷ w ∷ x ∷ y ∷ z ∷ u ∷ l) a b c d e p q r s t lo hi ia ib ic id ie = absurd (omega arith)
