-- The walk for "one after another" finds what some path meets.
use Rattle.std.proofs.Common.{◌≡◌, ℕ, Bool, true, false, List, [], ◌∷◌, ◌++◌, refl, ap, sym, ◌∙◌, subst, inl, inr, ◌⊎◌}
use Rattle.std.specs.Prelude.{◌&&◌, ◌||◌}
use Rattle.std.specs.List.{list_any}
use Rattle.tw_base.specs.declared.name.Name.{Name}
use Rattle.teapot_tree.specs.declared.expr.Expr.{Expr}
use Rattle.teapot_tree.specs.Bodies.{Simple, Body, done, plain, branch, branches, loop, each}
use Rattle.teapot_tree.specs.Paths.{Deed, does, tests, repeats, goes_on, Step, step, steps_in, Path, ends, goes, taken, passed}
use Rattle.teapot_tree.specs.Paths.{first, second, never, once, twice, over, Meets, Follows}
use Rattle.teapot_rules.specs.Lists.{In, Lists, line_if}
use Rattle.teapot_rules.specs.Walks.{meets, follow}
use Rattle.teapot_rules.proofs.Listing.{lists-if, lists-append, lists-same, lists-both}

-- ---- truth values

abbrev pub Le : Bool → Bool → Type 0
Le a b = a ≡ true → b ≡ true

pub or-le : (a b c d : Bool) → Le a c → Le b d → Le (a || b) (c || d)
or-le true b true d f g e = refl
or-le true b false d f g e = absurd (let k : false ≡ true = f refl in cc)
or-le false b true d f g e = refl
or-le false b false d f g e = g e

pub or-left : (a b : Bool) → Le a (a || b)
or-left true b e = refl
or-left false b e = absurd cc

pub or-right : (a b : Bool) → Le b (a || b)
or-right true b e = refl
or-right false b e = e

pub or-split : (a b : Bool) → (a || b) ≡ true → (a ≡ true) ⊎ (b ≡ true)
or-split true b e = inl refl
or-split false b e = inr e

pub or-assoc : (a b c : Bool) → ((a || b) || c) ≡ (a || (b || c))
or-assoc true b c = refl
or-assoc false b c = refl

pub and-both : (a b : Bool) → (a && b) ≡ true → (a ≡ true) × (b ≡ true)
and-both true b e = (refl, e)
and-both false b e = absurd cc

pub and-le : (a b c : Bool) → Le a c → Le (a && b) (c && b)
and-le true b true f e = e
and-le true b false f e = absurd (let k : false ≡ true = f refl in cc)
and-le false b c f e = absurd cc

-- ---- what a list of steps meets

abbrev pub met_by : (Deed → Bool) → List Step → Bool
met_by test p = list_any (λ (s : Step). test s.deed) p

pub met-append : (test : Deed → Bool) (p q : List Step) → met_by test (p ++ q) ≡ (met_by test p || met_by test q)
met-append test [] q = refl
met-append test (s ∷ p) q = ap (λ b. test s.deed || b) (met-append test p q)
    ∙ sym (or-assoc (test s.deed) (met_by test p) (met_by test q))

pub or-more : (g a c : Bool) → Le a c → Le (g || a) (g || c)
or-more g a c f = or-le g a g c (λ i. i) f

pub append-le : (test : Deed → Bool) (u v : List Step) (a b : Bool) → Le (met_by test u) a → Le (met_by test v) b →
    Le (met_by test (u ++ v)) (a || b)
append-le test u v a b f g e = or-le (met_by test u) (met_by test v) a b f g (sym (met-append test u v) ∙ e)

-- what a path meets stands in its body
pub path-met : (test : Deed → Bool) (b : Body) (p : List Step) → Path b p → Le (met_by test p) (meets test b)
path-met test b p ends e = e
path-met test b p (goes {n = n} {s = s} {b = c} {p = q} d) e =
    or-more (test (does s)) (met_by test q) (meets test c) (path-met test c q d) e
path-met test b p (taken {n = n} {e = t} {x = x} {b = c} {p = u} {q = v} d f) e =
    or-more (test (tests t)) (met_by test (u ++ v)) (met_by test (steps_in x ++ steps_in c))
    (λ i. met-append test (steps_in x) (steps_in c) ∙ append-le test u v (meets test x) (meets test c) (path-met test x u d)
    (path-met test c v f) i) e
path-met test b p (passed {n = n} {e = t} {x = x} {b = c} {q = v} f) e =
    or-more (test (tests t)) (met_by test v) (met_by test (steps_in x ++ steps_in c))
    (λ i. met-append test (steps_in x) (steps_in c) ∙ or-right (meets test x) (meets test c) (path-met test c v f i)) e
path-met test b p (first {n = n} {e = t} {x = x} {y = y} {b = c} {p = u} {q = v} d f) e =
    or-more (test (tests t)) (met_by test (u ++ v)) (met_by test (steps_in x ++ (steps_in y ++ steps_in c)))
    (λ i. met-append test (steps_in x) (steps_in y ++ steps_in c)
    ∙ ap (λ z. meets test x || z) (met-append test (steps_in y) (steps_in c))
    ∙ append-le test u v (meets test x) (meets test y || meets test c) (path-met test x u d)
    (λ j. or-right (meets test y) (meets test c) (path-met test c v f j)) i) e
path-met test b p (second {n = n} {e = t} {x = x} {y = y} {b = c} {p = u} {q = v} d f) e =
    or-more (test (tests t)) (met_by test (u ++ v)) (met_by test (steps_in x ++ (steps_in y ++ steps_in c)))
    (λ i. met-append test (steps_in x) (steps_in y ++ steps_in c)
    ∙ ap (λ z. meets test x || z) (met-append test (steps_in y) (steps_in c))
    ∙ or-right (meets test x) (meets test y || meets test c)
    (append-le test u v (meets test y) (meets test c) (path-met test y u d) (path-met test c v f) i)) e
path-met test b p (never {n = n} {v = w} {e = t} {x = x} {b = c} {q = v} f) e =
    or-more (test (repeats w t)) (met_by test v) (met_by test (steps_in x ++ steps_in c))
    (λ i. met-append test (steps_in x) (steps_in c) ∙ or-right (meets test x) (meets test c) (path-met test c v f i)) e
path-met test b p (once {n = n} {v = w} {e = t} {x = x} {b = c} {p = u} {q = v} d f) e =
    or-more (test (repeats w t)) (met_by test (u ++ v)) (met_by test (steps_in x ++ steps_in c))
    (λ i. met-append test (steps_in x) (steps_in c) ∙ append-le test u v (meets test x) (meets test c) (path-met test x u d)
    (path-met test c v f) i) e
path-met test b p (twice {n = n} {v = w} {e = t} {x = x} {b = c} {p = u} {r = r} {q = v} d g f) e =
    or-more (test (repeats w t)) (met_by test (u ++ (r ++ v))) (met_by test (steps_in x ++ steps_in c))
    (λ i. met-append test (steps_in x) (steps_in c)
    ∙ elim (or-split (met_by test u) (met_by test (r ++ v)) (sym (met-append test u (r ++ v)) ∙ i)) [
      | inl j ↦ or-left (meets test x) (meets test c) (path-met test x u d j)
      | inr j ↦ append-le test r v (meets test x) (meets test c) (path-met test x r g) (path-met test c v f) j
    ]) e
path-met test b p (over {n = n} {v = w} {s = s} {x = x} {b = c} {q = v} f) e =
    or-more (test goes_on) (met_by test v) (meets test c) (path-met test c v f) e

-- a path that meets one, where one stands in the body
abbrev pub Best : (Deed → Bool) → Body → Type 0
Best test b = (p : List Step) × Path b p × Le (meets test b) (met_by test p)

either : (test : Deed → Bool) (n : ℕ) (e : Expr) (x y b : Body) → Best test x → Best test y → Best test b → (m : Bool) →
    meets test x ≡ m → Best test (branches n e x y b)
either test n e x y b u v r true h = (
  step n (tests e) ∷ (u.0 ++ r.0),
  first u.1 r.1,
  λ i. or-right (test (tests e)) (met_by test (u.0 ++ r.0)) (met-append test u.0 r.0
      ∙ or-left (met_by test u.0) (met_by test r.0) (u.2 h)),
)
either test n e x y b u v r false h = (
  step n (tests e) ∷ (v.0 ++ r.0),
  second v.1 r.1,
  or-more (test (tests e)) (met_by test (steps_in x ++ (steps_in y ++ steps_in b))) (met_by test (v.0 ++ r.0))
      (λ i. met-append test v.0 r.0
      ∙ elim (or-split (meets test x) (met_by test (steps_in y ++ steps_in b))
      (sym (met-append test (steps_in x) (steps_in y ++ steps_in b)) ∙ i)) [
        | inl c ↦ absurd (cc)
        | inr c ↦ append-le test (steps_in y) (steps_in b) (met_by test v.0) (met_by test r.0) v.2 r.2 c
      ]),
)

pub best : (test : Deed → Bool) (b : Body) → Best test b
best test done = ([], ends, λ e. e)
best test (plain n s b) = let r = best test b in (
  step n (does s) ∷ r.0,
  goes r.1,
  or-more (test (does s)) (meets test b) (met_by test r.0) r.2,
)
best test (branch n e x b) =
    let u = best test x in
    let r = best test b in (
      step n (tests e) ∷ (u.0 ++ r.0),
      taken u.1 r.1,
      or-more (test (tests e)) (met_by test (steps_in x ++ steps_in b)) (met_by test (u.0 ++ r.0))
          (λ i. met-append test u.0 r.0 ∙ append-le test (steps_in x) (steps_in b) (met_by test u.0) (met_by test r.0) u.2 r.2 i),
    )
best test (branches n e x y b) = either test n e x y b (best test x) (best test y) (best test b) (meets test x) refl
best test (loop n w e x b) =
    let u = best test x in
    let r = best test b in (
      step n (repeats w e) ∷ (u.0 ++ r.0),
      once u.1 r.1,
      or-more (test (repeats w e)) (met_by test (steps_in x ++ steps_in b)) (met_by test (u.0 ++ r.0))
          (λ i. met-append test u.0 r.0 ∙ append-le test (steps_in x) (steps_in b) (met_by test u.0) (met_by test r.0) u.2 r.2 i),
    )
best test (each n w s x b) = let r = best test b in (
  step n goes_on ∷ r.0,
  over r.1,
  or-more (test goes_on) (meets test b) (met_by test r.0) r.2,
)

-- ---- one after another, where it is known whether one stood before

module _ (one other : Deed → Bool) where
  abbrev pub Hit : ℕ → Bool → List Step → Type 0
  Hit line had [] = ⊥
  Hit line had (s ∷ p) = ((s.line ≡ line) × ((had && other s.deed) ≡ true)) ⊎ Hit line (had || one s.deed) p

  hit-le : (line : ℕ) (a b : Bool) (p : List Step) → Le a b → Hit line a p → Hit line b p
  hit-le line a b [] f h = h
  hit-le line a b (s ∷ p) f (inl h) = inl (h.0, and-le a (other s.deed) b f h.1)
  hit-le line a b (s ∷ p) f (inr h) =
      inr (hit-le line (a || one s.deed) (b || one s.deed) p (or-le a (one s.deed) b (one s.deed) f (λ i. i)) h)

  hit-left : (line : ℕ) (a : Bool) (p q : List Step) → Hit line a p → Hit line a (p ++ q)
  hit-left line a [] q h = absurd h
  hit-left line a (s ∷ p) q (inl h) = inl h
  hit-left line a (s ∷ p) q (inr h) = inr (hit-left line (a || one s.deed) p q h)

  hit-right : (line : ℕ) (a : Bool) (p q : List Step) → Hit line (a || met_by one p) q → Hit line a (p ++ q)
  hit-right line a [] q h = hit-le line (a || false) a q (λ e. elim (or-split a false e) [ inl k ↦ k | inr k ↦ absurd cc ]) h
  hit-right line a (s ∷ p) q h =
      inr (hit-right line (a || one s.deed) p q (subst (λ b. Hit line b q) (sym (or-assoc a (one s.deed) (met_by one p))) h))

  hit-split : (line : ℕ) (a : Bool) (p q : List Step) → Hit line a (p ++ q) → Hit line a p ⊎ Hit line (a || met_by one p) q
  hit-split line a [] q h = inr (hit-le line a (a || false) q (or-left a false) h)
  hit-split line a (s ∷ p) q (inl h) = inl (inl h)
  hit-split line a (s ∷ p) q (inr h) = elim (hit-split line (a || one s.deed) p q h) [
    | inl k ↦ inl (inr k)
    | inr k ↦ inr (subst (λ b. Hit line b q) (or-assoc a (one s.deed) (met_by one p)) k)
  ]

  hit-meets : (line : ℕ) (p : List Step) → Hit line true p → Meets other line p
  hit-meets line [] h = h
  hit-meets line (s ∷ p) (inl h) = inl h
  hit-meets line (s ∷ p) (inr h) = inr (hit-meets line p h)

  meets-hit : (line : ℕ) (p : List Step) → Meets other line p → Hit line true p
  meets-hit line [] h = h
  meets-hit line (s ∷ p) (inl h) = inl h
  meets-hit line (s ∷ p) (inr h) = inr (meets-hit line p h)

  later : (line : ℕ) (b : Bool) (p : List Step) → Hit line b p → ((b ≡ true) × Meets other line p) ⊎ Hit line false p
  later line true p h = inl (refl, hit-meets line p h)
  later line false p h = inr h

  pub hit-follows : (line : ℕ) (p : List Step) → Hit line false p → Follows one other line p
  hit-follows line [] h = h
  hit-follows line (s ∷ p) (inl h) = absurd (let k : false ≡ true = h.1 in cc)
  hit-follows line (s ∷ p) (inr h) = elim (later line (one s.deed) p h) [ inl k ↦ inl k | inr k ↦ inr (hit-follows line p k) ]

  pub follows-hit : (line : ℕ) (p : List Step) → Follows one other line p → Hit line false p
  follows-hit line [] h = h
  follows-hit line (s ∷ p) (inl h) = inr (subst (λ b. Hit line b p) (sym h.0) (meets-hit line p h.1))
  follows-hit line (s ∷ p) (inr h) = inr (hit-le line false (one s.deed) p (λ e. absurd cc) (follows-hit line p h))

  -- ---- the walk, level by level

  at_plain : (n : ℕ) (s : Simple) (b : Body) (had : Bool) → Lists (follow one other (plain n s b) had)
      (λ line. ((n ≡ line) × ((had && other (does s)) ≡ true)) ⊎ In line (follow one other b (had || one (does s))))
  at_plain n s b had = lists-append (line_if (had && other (does s)) n) (follow one other b (had || one (does s)))
      (lists-if (had && other (does s)) n) (lists-same (follow one other b (had || one (does s))))

  at_each : (n : ℕ) (v : Name) (s : List Bool) (x b : Body) (had : Bool) →
      Lists (follow one other (each n v s x b) had) (λ line. ((n ≡ line) × ((had && other goes_on) ≡ true))
      ⊎ In line (follow one other b (had || one goes_on)))
  at_each n v s x b had = lists-append (line_if (had && other goes_on) n) (follow one other b (had || one goes_on))
      (lists-if (had && other goes_on) n) (lists-same (follow one other b (had || one goes_on)))

  at_branch : (n : ℕ) (e : Expr) (x b : Body) (had : Bool) →
      Lists (follow one other (branch n e x b) had) (λ line. ((n ≡ line) × ((had && other (tests e)) ≡ true))
      ⊎ (In line (follow one other x (had || one (tests e)))
      ⊎ In line (follow one other b (had || one (tests e) || meets one x))))
  at_branch n e x b had =
      lists-append (line_if (had && other (tests e)) n) (follow one other x (had || one (tests e))
      ++ follow one other b (had || one (tests e) || meets one x)) (lists-if (had && other (tests e)) n)
      (lists-both (follow one other x (had || one (tests e))) (follow one other b (had || one (tests e) || meets one x)))

  at_branches : (n : ℕ) (e : Expr) (x y b : Body) (had : Bool) →
      Lists (follow one other (branches n e x y b) had)
      (λ line. ((n ≡ line) × ((had && other (tests e)) ≡ true))
      ⊎ (In line (follow one other x (had || one (tests e)))
      ⊎ (In line (follow one other y (had || one (tests e)))
      ⊎ In line (follow one other b (had || one (tests e) || meets one x || meets one y)))))
  at_branches n e x y b had =
      lists-append (line_if (had && other (tests e)) n) (follow one other x (had || one (tests e))
      ++ (follow one other y (had || one (tests e)) ++ follow one other b
      (had || one (tests e) || meets one x || meets one y)))
      (lists-if (had && other (tests e)) n)
      (lists-append (follow one other x (had || one (tests e)))
      (follow one other y (had || one (tests e)) ++ follow one other b
      (had || one (tests e) || meets one x || meets one y)) (lists-same (follow one other x (had || one (tests e))))
      (lists-both (follow one other y (had || one (tests e)))
      (follow one other b (had || one (tests e) || meets one x || meets one y))))

  at_loop : (n : ℕ) (w : Name) (e : Expr) (x b : Body) (had : Bool) →
      Lists (follow one other (loop n w e x b) had)
      (λ line. ((n ≡ line) × ((had && other (repeats w e)) ≡ true))
      ⊎ (In line (follow one other x (had || one (repeats w e) || meets one x))
      ⊎ In line (follow one other b (had || one (repeats w e) || meets one x))))
  at_loop n w e x b had =
      lists-append (line_if (had && other (repeats w e)) n) (follow one other x (had || one (repeats w e) || meets one x)
      ++ follow one other b (had || one (repeats w e) || meets one x)) (lists-if (had && other (repeats w e)) n)
      (lists-both (follow one other x (had || one (repeats w e) || meets one x))
      (follow one other b (had || one (repeats w e) || meets one x)))

  -- ---- what a path meets, the walk finds

  met : (line : ℕ) (b : Body) (p : List Step) (had : Bool) → Path b p → Hit line had p → In line (follow one other b had)
  met line b p had ends h = absurd h
  met line b p had (goes {n = n} {s = s} {b = c} {p = q} d) (inl h) = (at_plain n s c had line).1 (inl h)
  met line b p had (goes {n = n} {s = s} {b = c} {p = q} d) (inr h) =
      (at_plain n s c had line).1 (inr (met line c q (had || one (does s)) d h))
  met line b p had (taken {n = n} {e = e} {x = x} {b = c} {p = u} {q = v} d f) (inl h) = (at_branch n e x c had line).1 (inl h)
  met line b p had (taken {n = n} {e = e} {x = x} {b = c} {p = u} {q = v} d f) (inr h) =
      let g : Bool = had || one (tests e) in
      (at_branch n e x c had line).1 (inr (elim (hit-split line g u v h) [
        | inl i ↦ inl (met line x u g d i)
        | inr i ↦ inr
            (met line c v (g || meets one x) f (hit-le line (g || met_by one u) (g || meets one x) v
            (or-more g (met_by one u) (meets one x) (path-met one x u d)) i))
      ]))
  met line b p had (passed {n = n} {e = e} {x = x} {b = c} {q = v} f) (inl h) = (at_branch n e x c had line).1 (inl h)
  met line b p had (passed {n = n} {e = e} {x = x} {b = c} {q = v} f) (inr h) =
      let g : Bool = had || one (tests e) in
      (at_branch n e x c had line).1
      (inr (inr (met line c v (g || meets one x) f (hit-le line g (g || meets one x) v (or-left g (meets one x)) h))))
  met line b p had (first {n = n} {e = e} {x = x} {y = y} {b = c} {p = u} {q = v} d f) (inl h) =
      (at_branches n e x y c had line).1 (inl h)
  met line b p had (first {n = n} {e = e} {x = x} {y = y} {b = c} {p = u} {q = v} d f) (inr h) =
      let g : Bool = had || one (tests e) in
      (at_branches n e x y c had line).1 (inr (elim (hit-split line g u v h) [
        | inl i ↦ inl (met line x u g d i)
        | inr i ↦ inr (inr (met line c v (g || meets one x || meets one y) f
            (hit-le line (g || met_by one u) (g || meets one x || meets one y) v
            (λ k. or-left (g || meets one x) (meets one y) (or-more g (met_by one u) (meets one x) (path-met one x u d) k)) i)))
      ]))
  met line b p had (second {n = n} {e = e} {x = x} {y = y} {b = c} {p = u} {q = v} d f) (inl h) =
      (at_branches n e x y c had line).1 (inl h)
  met line b p had (second {n = n} {e = e} {x = x} {y = y} {b = c} {p = u} {q = v} d f) (inr h) =
      let g : Bool = had || one (tests e) in
      (at_branches n e x y c had line).1 (inr (elim (hit-split line g u v h) [
        | inl i ↦ inr (inl (met line y u g d i))
        | inr i ↦ inr (inr (met line c v (g || meets one x || meets one y) f
            (hit-le line (g || met_by one u) (g || meets one x || meets one y) v
            (or-le g (met_by one u) (g || meets one x) (meets one y) (or-left g (meets one x)) (path-met one y u d)) i)))
      ]))
  met line b p had (never {n = n} {v = w} {e = e} {x = x} {b = c} {q = v} f) (inl h) = (at_loop n w e x c had line).1 (inl h)
  met line b p had (never {n = n} {v = w} {e = e} {x = x} {b = c} {q = v} f) (inr h) =
      let g : Bool = had || one (repeats w e) in
      (at_loop n w e x c had line).1
      (inr (inr (met line c v (g || meets one x) f (hit-le line g (g || meets one x) v (or-left g (meets one x)) h))))
  met line b p had (once {n = n} {v = w} {e = e} {x = x} {b = c} {p = u} {q = v} d f) (inl h) =
      (at_loop n w e x c had line).1 (inl h)
  met line b p had (once {n = n} {v = w} {e = e} {x = x} {b = c} {p = u} {q = v} d f) (inr h) =
      let g : Bool = had || one (repeats w e) in
      (at_loop n w e x c had line).1 (inr (elim (hit-split line g u v h) [
        | inl i ↦ inl (met line x u (g || meets one x) d (hit-le line g (g || meets one x) u (or-left g (meets one x)) i))
        | inr i ↦ inr
            (met line c v (g || meets one x) f (hit-le line (g || met_by one u) (g || meets one x) v
            (or-more g (met_by one u) (meets one x) (path-met one x u d)) i))
      ]))
  met line b p had (twice {n = n} {v = w} {e = e} {x = x} {b = c} {p = u} {r = r} {q = v} d k f) (inl h) =
      (at_loop n w e x c had line).1 (inl h)
  met line b p had (twice {n = n} {v = w} {e = e} {x = x} {b = c} {p = u} {r = r} {q = v} d k f) (inr h) =
      let g : Bool = had || one (repeats w e) in
      (at_loop n w e x c had line).1 (inr (elim (hit-split line g u (r ++ v) h) [
        | inl i ↦ inl (met line x u (g || meets one x) d (hit-le line g (g || meets one x) u (or-left g (meets one x)) i))
        | inr i ↦ elim (hit-split line (g || met_by one u) r v i) [
          | inl j ↦ inl
              (met line x r (g || meets one x) k (hit-le line (g || met_by one u) (g || meets one x) r
              (or-more g (met_by one u) (meets one x) (path-met one x u d)) j))
          | inr j ↦ inr (met line c v (g || meets one x) f
              (hit-le line (g || met_by one u || met_by one r) (g || meets one x) v
              (λ z. elim (or-split (g || met_by one u) (met_by one r) z) [
                | inl q ↦ or-more g (met_by one u) (meets one x) (path-met one x u d) q
                | inr q ↦ or-right g (meets one x) (path-met one x r k q)
              ]) j))
        ]
      ]))
  met line b p had (over {n = n} {v = w} {s = s} {x = x} {b = c} {q = v} f) (inl h) = (at_each n w s x c had line).1 (inl h)
  met line b p had (over {n = n} {v = w} {s = s} {x = x} {b = c} {q = v} f) (inr h) =
      (at_each n w s x c had line).1 (inr (met line c v (had || one goes_on) f h))

  -- ---- what the walk finds, a path meets

  abbrev Met : ℕ → Body → Bool → Type 0
  Met line b had = (p : List Step) × Path b p × Hit line had p

  behind : (line n : ℕ) (e : Expr) (x y b : Body) (had : Bool) →
      Met line b (had || one (tests e) || meets one x || meets one y) → (m : Bool) → meets one x ≡ m →
      Met line (branches n e x y b) had
  behind line n e x y b had r true t =
      let g : Bool = had || one (tests e) in
      let u = best one x in (
        step n (tests e) ∷ (u.0 ++ r.0),
        first u.1 r.1,
        inr (hit-right line g u.0 r.0 (hit-le line (g || meets one x || meets one y) (g || met_by one u.0) r.0
            (λ q. or-right g (met_by one u.0) (u.2 t)) r.2)),
      )
  behind line n e x y b had r false t =
      let g : Bool = had || one (tests e) in
      let u = best one y in (
        step n (tests e) ∷ (u.0 ++ r.0),
        second u.1 r.1,
        inr (hit-right line g u.0 r.0 (hit-le line (g || meets one x || meets one y) (g || met_by one u.0) r.0
            (or-le (g || meets one x) (meets one y) g (met_by one u.0)
            (λ q. elim (or-split g (meets one x) q) [ inl c ↦ c | inr c ↦ absurd (cc) ]) u.2) r.2)),
      )

  found : (line : ℕ) (b : Body) (had : Bool) → In line (follow one other b had) → Met line b had
  found line done had h = absurd h
  found line (plain n s b) had h = elim ((at_plain n s b had line).0 h) [
    | inl i ↦ let r = best one b in (step n (does s) ∷ r.0, goes r.1, inl i)
    | inr i ↦ let r = found line b (had || one (does s)) i in (step n (does s) ∷ r.0, goes r.1, inr r.2)
  ]
  found line (branch n e x b) had h =
      let g : Bool = had || one (tests e) in
      let u = best one x in
      let v = best one b in
      elim ((at_branch n e x b had line).0 h) [
        | inl i ↦ (step n (tests e) ∷ (u.0 ++ v.0), taken u.1 v.1, inl i)
        | inr i ↦ elim i [
          | inl j ↦ let r = found line x g j in (
            step n (tests e) ∷ (r.0 ++ v.0),
            taken r.1 v.1,
            inr (hit-left line g r.0 v.0 r.2),
          )
          | inr j ↦
              let r = found line b (g || meets one x) j in (
                step n (tests e) ∷ (u.0 ++ r.0),
                taken u.1 r.1,
                inr (hit-right line g u.0 r.0 (hit-le line (g || meets one x) (g || met_by one u.0) r.0
                    (or-more g (meets one x) (met_by one u.0) u.2) r.2)),
              )
        ]
      ]
  found line (branches n e x y b) had h =
      let g : Bool = had || one (tests e) in
      let u = best one x in
      let v = best one b in
      elim ((at_branches n e x y b had line).0 h) [
        | inl i ↦ (step n (tests e) ∷ (u.0 ++ v.0), first u.1 v.1, inl i)
        | inr i ↦ elim i [
          | inl j ↦ let r = found line x g j in (
            step n (tests e) ∷ (r.0 ++ v.0),
            first r.1 v.1,
            inr (hit-left line g r.0 v.0 r.2),
          )
          | inr j ↦ elim j [
            | inl k ↦ let r = found line y g k in (
              step n (tests e) ∷ (r.0 ++ v.0),
              second r.1 v.1,
              inr (hit-left line g r.0 v.0 r.2),
            )
            | inr k ↦ behind line n e x y b had (found line b (g || meets one x || meets one y) k) (meets one x) refl
          ]
        ]
      ]
  found line (loop n w e x b) had h =
      let g : Bool = had || one (repeats w e) in
      let u = best one x in
      let v = best one b in
      elim ((at_loop n w e x b had line).0 h) [
        | inl i ↦ (step n (repeats w e) ∷ v.0, never v.1, inl i)
        | inr i ↦ elim i [
          | inl j ↦
              let r = found line x (g || meets one x) j in (
                step n (repeats w e) ∷ (u.0 ++ (r.0 ++ v.0)),
                twice u.1 r.1 v.1,
                inr (hit-right line g u.0 (r.0 ++ v.0) (hit-left line (g || met_by one u.0) r.0 v.0
                    (hit-le line (g || meets one x) (g || met_by one u.0) r.0
                    (or-more g (meets one x) (met_by one u.0) u.2) r.2))),
              )
          | inr j ↦
              let r = found line b (g || meets one x) j in (
                step n (repeats w e) ∷ (u.0 ++ r.0),
                once u.1 r.1,
                inr (hit-right line g u.0 r.0 (hit-le line (g || meets one x) (g || met_by one u.0) r.0
                    (or-more g (meets one x) (met_by one u.0) u.2) r.2)),
              )
        ]
      ]
  found line (each n w s x b) had h = elim ((at_each n w s x b had line).0 h) [
    | inl i ↦ let r = best one b in (step n goes_on ∷ r.0, over r.1, inl i)
    | inr i ↦ let r = found line b (had || one goes_on) i in (step n goes_on ∷ r.0, over r.1, inr r.2)
  ]

  pub follow-is : (b : Body) → Lists (follow one other b false) (λ line. (p : List Step) × Path b p × Follows one other line p)
  follow-is b line = (
    λ h. let r = found line b false h in (r.0, r.1, hit-follows line r.0 r.2),
    λ h. met line b h.0 false h.1 (follows-hit line h.0 h.2),
  )
