-- A statement with every line 0, by what it does.
use Rattle.std.proofs.Common.{◌≡◌, ℕ, zero, suc, ◌<◌, Bool, List, [], ◌∷◌, map, length, Option, Some, None, ap, sym, ◌∙◌, arith}
use Rattle.std.proofs.Common.{get_or}
use Rattle.std.specs.Prelude.{◌↔◌}
use Rattle.std.specs.Option.{option_map}
use Rattle.tw_base.specs.declared.name.Name.{Name}
use Rattle.teapot_tree.specs.declared.expr.Expr.{Expr}
use Rattle.teapot_tree.specs.declared.stmt.Stmt.{Stmt}
use Rattle.teapot_tree.specs.declared.stmt.Do.{Do, roll-Do, out-Do, fold-roll-Do, map-Do}
use Rattle.teapot_tree.specs.declared.stmt.Do.TheOpen.{Do-F}
use Rattle.teapot_tree.specs.declared.stmt.Do.TheVariants as v
use Rattle.teapot_tree.specs.Bare.{bare, bare_all, bare_do}

pub bare_do-roll : (l : Do-F Do Stmt) → bare_do (roll-Do l) ≡ roll-Do (map-Do Do Stmt Do Stmt bare_do bare l)
unfolding bare bare_do
bare_do-roll l = fold-roll-Do Do Stmt roll-Do (λ s. record { what = s.what; line = 0 }) l

pub bare-If : (e : Expr) (xs : List Stmt) (o : Option (List Stmt)) →
    bare_do (v.If e xs o) ≡ v.If e (bare_all xs) (option_map bare_all o)
bare-If e xs None = ap bare_do (sym (v.rolls-If e xs None)) ∙ bare_do-roll (Do-F.If e xs None) ∙ v.rolls-If e (bare_all xs) None
bare-If e xs (Some ys) = ap bare_do (sym (v.rolls-If e xs (Some ys))) ∙ bare_do-roll (Do-F.If e xs (Some ys))
    ∙ v.rolls-If e (bare_all xs) (Some (bare_all ys))

pub bare-ForEach : (n : Name) (e : Expr) (xs : List Stmt) → bare_do (v.ForEach n e xs) ≡ v.ForEach n e (bare_all xs)
bare-ForEach n e xs = ap bare_do (sym (v.rolls-ForEach n e xs)) ∙ bare_do-roll (Do-F.ForEach n e xs)
    ∙ v.rolls-ForEach n e (bare_all xs)

pub bare-Each : (n : Name) (s : List Bool) (xs : List Stmt) → bare_do (v.Each n s xs) ≡ v.Each n s (bare_all xs)
bare-Each n s xs = ap bare_do (sym (v.rolls-Each n s xs)) ∙ bare_do-roll (Do-F.Each n s xs) ∙ v.rolls-Each n s (bare_all xs)

-- ---- two that are the same

pub same-If : (c d : Do) (e f : Expr) (xs ys : List Stmt) (o q : Option (List Stmt)) → c ≡ v.If e xs o → d ≡ v.If f ys q →
    (bare_do c ≡ bare_do d) ↔ ((e ≡ f) × (bare_all xs ≡ bare_all ys) × (option_map bare_all o ≡ option_map bare_all q))
same-If c d e f xs ys o q i j = (
  λ h. let k : Do-F.If e (bare_all xs) (option_map bare_all o) ≡ Do-F.If f (bare_all ys) (option_map bare_all q) =
      sym (v.outs-If e (bare_all xs) (option_map bare_all o))
      ∙ ap out-Do (sym (bare-If e xs o) ∙ ap bare_do (sym i) ∙ h ∙ ap bare_do j ∙ bare-If f ys q)
      ∙ v.outs-If f (bare_all ys) (option_map bare_all q) in (cc, cc, cc),
  λ h. ap bare_do i ∙ bare-If e xs o ∙ ap (λ z. v.If z (bare_all xs) (option_map bare_all o)) h.0
      ∙ ap (λ z. v.If f z (option_map bare_all o)) h.1 ∙ ap (λ z. v.If f (bare_all ys) z) h.2 ∙ sym (bare-If f ys q)
      ∙ sym (ap bare_do j),
)

pub same-ForEach : (c d : Do) (n m : Name) (e f : Expr) (xs ys : List Stmt) → c ≡ v.ForEach n e xs → d ≡ v.ForEach m f ys →
    (bare_do c ≡ bare_do d) ↔ ((n ≡ m) × (e ≡ f) × (bare_all xs ≡ bare_all ys))
same-ForEach c d n m e f xs ys p q = (
  λ h. let k : Do-F.ForEach n e (bare_all xs) ≡ Do-F.ForEach m f (bare_all ys) = sym (v.outs-ForEach n e (bare_all xs))
      ∙ ap out-Do (sym (bare-ForEach n e xs) ∙ ap bare_do (sym p) ∙ h ∙ ap bare_do q ∙ bare-ForEach m f ys)
      ∙ v.outs-ForEach m f (bare_all ys) in (cc, cc, cc),
  λ h. ap bare_do p ∙ bare-ForEach n e xs ∙ ap (λ z. v.ForEach z e (bare_all xs)) h.0
      ∙ ap (λ z. v.ForEach m z (bare_all xs)) h.1 ∙ ap (λ z. v.ForEach m f z) h.2 ∙ sym (bare-ForEach m f ys)
      ∙ sym (ap bare_do q),
)

pub same-Each : (c d : Do) (n m : Name) (s t : List Bool) (xs ys : List Stmt) → c ≡ v.Each n s xs → d ≡ v.Each m t ys →
    (bare_do c ≡ bare_do d) ↔ ((n ≡ m) × (s ≡ t) × (bare_all xs ≡ bare_all ys))
same-Each c d n m s t xs ys p q = (
  λ h. let k : Do-F.Each n s (bare_all xs) ≡ Do-F.Each m t (bare_all ys) = sym (v.outs-Each n s (bare_all xs))
      ∙ ap out-Do (sym (bare-Each n s xs) ∙ ap bare_do (sym p) ∙ h ∙ ap bare_do q ∙ bare-Each m t ys)
      ∙ v.outs-Each m t (bare_all ys) in (cc, cc, cc),
  λ h. ap bare_do p ∙ bare-Each n s xs ∙ ap (λ z. v.Each z s (bare_all xs)) h.0 ∙ ap (λ z. v.Each m z (bare_all xs)) h.1
      ∙ ap (λ z. v.Each m t z) h.2 ∙ sym (bare-Each m t ys) ∙ sym (ap bare_do q),
)

-- ---- lists, place by place

pub map_at : {X Y : Type 0} (f : X → Y) (a b : List X) (i : ℕ) (c d : X) → i < length a → i < length b → map f a ≡ map f b →
    f (get_or a i c) ≡ f (get_or b i d)
map_at f [] b i c d lt lt' e = absurd (omega arith)
map_at f (x ∷ a) [] i c d lt lt' e = absurd (omega arith)
map_at f (x ∷ a) (y ∷ b) zero c d lt lt' e = cc
map_at f (x ∷ a) (y ∷ b) (suc i) c d lt lt' e = map_at f a b i c d (omega arith) (omega arith) (cc)
