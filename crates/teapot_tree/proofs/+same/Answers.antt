use Rattle.std.proofs.Common.{◌≡◌, Bool, true, false, List, Option, Some, None, is_some, not, refl, ap, sym, ◌∙◌, arith}
use Rattle.std.specs.Option.{option_map}
use Rattle.teapot_tree.specs.declared.stmt.Stmt.{Stmt}
use Rattle.teapot_tree.specs.Bare.{bare, bare_all}
use Rattle.teapot_tree.proofs.Bares.{map_at, same-If, same-ForEach, same-Each}
use Rattle.teapot_tree.proofs.+same.Goals.{stmt::Do::same-then-not-same-via-then-not-same}
use Rattle.teapot_tree.proofs.+same.Goals.{stmt::Do::same-then-not-same-via-else-not-same+then-not-same_stmts}
use Rattle.teapot_tree.proofs.+same.Goals as goal

pub compare::same_stmts-returns-then-not-same : goal.compare::same_stmts-returns-then-not-same
compare::same_stmts-returns-then-not-same t c = (
  λ f. absurd (cc),
  λ h.
      let e : bare c.index-a-at.result ≡ bare c.index-b-at.result = ap bare c.index-a-at.is
      ∙ map_at bare _ _ _ _ _ c.loop-at-test.true (omega arith) h ∙ sym (ap bare c.index-b-at.is) in
      let k : c.same.result ≡ true = c.same.ensures.1 e in
      absurd (cc),
)

along : (f : List Stmt → List Stmt) (a b x y : List Stmt) → a ≡ x → b ≡ y → f x ≡ f y → f a ≡ f b
along f a b x y p q h = ap f p ∙ h ∙ sym (ap f q)

back : (f : List Stmt → List Stmt) (a b x y : List Stmt) → a ≡ x → b ≡ y → f a ≡ f b → f x ≡ f y
back f a b x y p q h = sym (ap f p) ∙ h ∙ ap f q

some_inside : (o q : Option (List Stmt)) (x y : List Stmt) → o ≡ Some x → q ≡ Some y →
    option_map bare_all o ≡ option_map bare_all q → bare_all x ≡ bare_all y
some_inside o q x y i j h = let k : Some (bare_all x) ≡ Some (bare_all y) = sym (ap (option_map bare_all) i) ∙ h
    ∙ ap (option_map bare_all) j in cc

some_outside : (o q : Option (List Stmt)) (x y : List Stmt) → o ≡ Some x → q ≡ Some y → bare_all x ≡ bare_all y →
    option_map bare_all o ≡ option_map bare_all q
some_outside o q x y i j h = ap (option_map bare_all) i ∙ ap (λ z. Some z) h ∙ sym (ap (option_map bare_all) j)

none_inside : (o : Option (List Stmt)) → option_map bare_all None ≡ option_map bare_all o → o ≡ None
none_inside None h = cc
none_inside (Some x) h = absurd cc

if_none : (o : Option (List Stmt)) (r : Bool) → is_some o ≡ not r → (r ≡ true → o ≡ None) × (o ≡ None → r ≡ true)
if_none None true e = (λ i. refl, λ i. refl)
if_none None false e = absurd cc
if_none (Some x) true e = absurd cc
if_none (Some x) false e = (λ i. absurd cc, λ i. absurd cc)

pub stmt::Do::same-returns-then-not-same : goal.stmt::Do::same-returns-then-not-same
stmt::Do::same-returns-then-not-same t c = elim c.then-not-same.branch [
  | stmt::Do::same-then-not-same-via-then-not-same w ↦ (
    λ f. absurd (cc),
    λ h.
        let k = (same-If _ _ _ _ _ _ _ _ c.in-If-If.is-0 c.in-If-If.is-1).0 h in
        let r : c.same-in-If-If.result ≡ true = c.same-in-If-If.ensures.1 k.0 in
        let q = w.if-not-same.true in
        absurd (cc),
  )
  | stmt::Do::same-then-not-same-via-else-not-same+then-not-same_stmts w ↦ (
    λ f. absurd (cc),
    λ h.
        let k = (same-If _ _ _ _ _ _ _ _ c.in-If-If.is-0 c.in-If-If.is-1).0 h in
        let r : w.same_stmts.result ≡ true = w.same_stmts.ensures.1
        (along bare_all _ _ _ _ w.items.ensures w.items-else-not-same.ensures k.1) in
        let q = w.if-not-same_stmts.true in
        absurd (cc),
  )
]

pub stmt::Do::same-returns-in-None : goal.stmt::Do::same-returns-in-None
stmt::Do::same-returns-in-None t c =
    let k = same-If _ _ _ _ _ _ _ _ c.in-If-If.is-0 c.in-If-If.is-1 in
    let e = c.same-in-If-If.ensures.0 (cc) in
    let xs = back bare_all _ _ _ _ c.items.ensures c.items-else-not-same.ensures (c.same_stmts.ensures.0 (cc)) in
    let n = if_none c.in-If-If.v c.is_none.result c.is_none.ensures in (
      λ r. k.1 (e, xs, ap (option_map bare_all) (c.in-None.is ∙ sym (n.0 r))),
      λ h. n.1 (none_inside _ (sym (ap (option_map bare_all) c.in-None.is) ∙ (k.0 h).2)),
    )

pub stmt::Do::same-returns-in-Some-v : goal.stmt::Do::same-returns-in-Some-v
stmt::Do::same-returns-in-Some-v t c =
    let k = same-If _ _ _ _ _ _ _ _ c.in-If-If.is-0 c.in-If-If.is-1 in
    let e = c.same-in-If-If.ensures.0 (cc) in
    let xs = back bare_all _ _ _ _ c.items.ensures c.items-else-not-same.ensures (c.same_stmts.ensures.0 (cc)) in (
      λ r. k.1 (
        e,
        xs,
        some_outside _ _ _ _ c.in-Some.is c.in-Some-v.is
            (back bare_all _ _ _ _ c.items-in-Some-v.ensures c.items-in-Some-v-2.ensures (c.same_stmts-in-Some-v.ensures.0 r)),
      ),
      λ h. c.same_stmts-in-Some-v.ensures.1 (along bare_all _ _ _ _ c.items-in-Some-v.ensures c.items-in-Some-v-2.ensures
          (some_inside _ _ _ _ c.in-Some.is c.in-Some-v.is (k.0 h).2)),
    )

pub stmt::Do::same-returns-then-same_loop : goal.stmt::Do::same-returns-then-same_loop
stmt::Do::same-returns-then-same_loop t c =
    let k = same-ForEach _ _ _ _ _ _ _ _ c.in-ForEach-ForEach.is-0 c.in-ForEach-ForEach.is-1 in
    let e = c.same_loop.ensures.0 (cc) in (
      λ r. k.1 (
        e.0,
        e.1,
        back bare_all _ _ _ _ c.items-then-same_loop.ensures c.items-then-same_loop-2.ensures
            (c.same_stmts-then-same_loop.ensures.0 r),
      ),
      λ h. c.same_stmts-then-same_loop.ensures.1 (along bare_all _ _ _ _ c.items-then-same_loop.ensures
          c.items-then-same_loop-2.ensures (k.0 h).2),
    )

pub stmt::Do::same-returns-then-same_each : goal.stmt::Do::same-returns-then-same_each
stmt::Do::same-returns-then-same_each t c =
    let k = same-Each _ _ _ _ _ _ _ _ c.in-Each-Each.is-0 c.in-Each-Each.is-1 in
    let e = c.same_each.ensures.0 (cc) in (
      λ r. k.1 (
        e.0,
        e.1,
        back bare_all _ _ _ _ c.items-then-same_each.ensures c.items-then-same_each-2.ensures
            (c.same_stmts-then-same_each.ensures.0 r),
      ),
      λ h. c.same_stmts-then-same_each.ensures.1 (along bare_all _ _ _ _ c.items-then-same_each.ensures
          c.items-then-same_each-2.ensures (k.0 h).2),
    )
