-- The walk for "not the last" finds what some path meets.
use Rattle.std.proofs.Common.{◌≡◌, ℕ, Bool, true, false, List, [], ◌∷◌, ◌++◌, refl, ap, sym, ◌∙◌, inl, inr, ◌⊎◌}
use Rattle.std.specs.Prelude.{◌&&◌, ◌||◌}
use Rattle.tw_base.specs.declared.name.Name.{Name}
use Rattle.teapot_tree.specs.declared.expr.Expr.{Expr}
use Rattle.teapot_tree.specs.Bodies.{Simple, Body, done, plain, branch, branches, loop, each}
use Rattle.teapot_tree.specs.Paths.{Deed, does, tests, repeats, goes_on, Step, step, Path, ends, goes, taken, passed, first}
use Rattle.teapot_tree.specs.Paths.{second, never, once, twice, over, is_some_path, NotLast}
use Rattle.teapot_rules.specs.Lists.{In, Lists, line_if}
use Rattle.teapot_rules.specs.Walks.{is_some_body, not_last}
use Rattle.teapot_rules.proofs.Listing.{lists-if, lists-append, lists-same, lists-both}
use Rattle.teapot_rules.proofs.Follows.{Le, or-le, or-more, or-left, or-right, or-split, or-assoc, and-both, best}

and-true : (a b : Bool) → a ≡ true → b ≡ true → (a && b) ≡ true
and-true a b e f = ap (λ z. z && b) e ∙ f

some-append : (p q : List Step) → is_some_path (p ++ q) ≡ (is_some_path p || is_some_path q)
some-append [] q = refl
some-append (s ∷ p) q = refl

-- a path has statements exactly where its body has
path-some : (b : Body) (p : List Step) → Path b p → is_some_path p ≡ is_some_body b
path-some b p ends = refl
path-some b p (goes d) = refl
path-some b p (taken d f) = refl
path-some b p (passed f) = refl
path-some b p (first d f) = refl
path-some b p (second d f) = refl
path-some b p (never f) = refl
path-some b p (once d f) = refl
path-some b p (twice d g f) = refl
path-some b p (over f) = refl

some-le : (b : Body) (p : List Step) → Path b p → Le (is_some_path p) (is_some_body b)
some-le b p d e = sym (path-some b p d) ∙ e

some-back : (b : Body) (p : List Step) → Path b p → Le (is_some_body b) (is_some_path p)
some-back b p d e = path-some b p d ∙ e

pair-le : (p q : List Step) (a b : Bool) → Le (is_some_path p) a → Le (is_some_path q) b → Le (is_some_path (p ++ q)) (a || b)
pair-le p q a b f g e = or-le (is_some_path p) (is_some_path q) a b f g (sym (some-append p q) ∙ e)

pair-back : (p q : List Step) (a b : Bool) → Le a (is_some_path p) → Le b (is_some_path q) → Le (a || b) (is_some_path (p ++ q))
pair-back p q a b f g e = some-append p q ∙ or-le a b (is_some_path p) (is_some_path q) f g e

or-before : (a b m : Bool) → Le a b → Le (a || m) (b || m)
or-before a b m f e = or-le a m b m f (λ i. i) e

module _ (kind : Deed → Bool) where
  -- one of the kind at the line is not the last, where it is known whether a statement follows the path
  abbrev Hit : ℕ → Bool → List Step → Type 0
  Hit line more [] = ⊥
  Hit line more (s ∷ p) = ((s.line ≡ line) × (kind s.deed ≡ true) × ((is_some_path p || more) ≡ true)) ⊎ Hit line more p

  hit-le : (line : ℕ) (a b : Bool) (p : List Step) → Le a b → Hit line a p → Hit line b p
  hit-le line a b [] f h = h
  hit-le line a b (s ∷ p) f (inl h) = inl (h.0, h.1, or-more (is_some_path p) a b f h.2)
  hit-le line a b (s ∷ p) f (inr h) = inr (hit-le line a b p f h)

  hit-left : (line : ℕ) (more : Bool) (p q : List Step) → Hit line (is_some_path q || more) p → Hit line more (p ++ q)
  hit-left line more [] q h = absurd h
  hit-left line more (s ∷ p) q (inl h) = inl (
    h.0,
    h.1,
    ap (λ z. z || more) (some-append p q)
        ∙ or-assoc (is_some_path p) (is_some_path q) more ∙ h.2,
  )
  hit-left line more (s ∷ p) q (inr h) = inr (hit-left line more p q h)

  hit-right : (line : ℕ) (more : Bool) (p q : List Step) → Hit line more q → Hit line more (p ++ q)
  hit-right line more [] q h = h
  hit-right line more (s ∷ p) q h = inr (hit-right line more p q h)

  hit-split : (line : ℕ) (more : Bool) (p q : List Step) → Hit line more (p ++ q) →
      Hit line (is_some_path q || more) p ⊎ Hit line more q
  hit-split line more [] q h = inr h
  hit-split line more (s ∷ p) q (inl h) =
      inl (inl (
        h.0,
        h.1,
        sym (or-assoc (is_some_path p) (is_some_path q) more) ∙ sym (ap (λ z. z || more) (some-append p q))
            ∙ h.2,
      ))
  hit-split line more (s ∷ p) q (inr h) = elim (hit-split line more p q h) [ inl k ↦ inl (inr k) | inr k ↦ inr k ]

  hit-some : (line : ℕ) (more : Bool) (p : List Step) → Hit line more p → is_some_path p ≡ true
  hit-some line more [] h = absurd h
  hit-some line more (s ∷ p) h = refl

  hit-last : (line : ℕ) (p : List Step) → Hit line false p → NotLast kind line p
  hit-last line [] h = h
  hit-last line (s ∷ p) (inl h) = inl (h.0, h.1, elim (or-split (is_some_path p) false h.2) [ inl k ↦ k | inr k ↦ absurd (cc) ])
  hit-last line (s ∷ p) (inr h) = inr (hit-last line p h)

  last-hit : (line : ℕ) (p : List Step) → NotLast kind line p → Hit line false p
  last-hit line [] h = h
  last-hit line (s ∷ p) (inl h) = inl (h.0, h.1, or-left (is_some_path p) false h.2)
  last-hit line (s ∷ p) (inr h) = inr (last-hit line p h)

  -- ---- the walk, level by level

  at_plain : (n : ℕ) (s : Simple) (b : Body) (m : Bool) → Lists (not_last kind (plain n s b) m)
      (λ line. ((n ≡ line) × ((kind (does s) && (is_some_body b || m)) ≡ true)) ⊎ In line (not_last kind b m))
  at_plain n s b m = lists-append (line_if (kind (does s) && (is_some_body b || m)) n) (not_last kind b m)
      (lists-if (kind (does s) && (is_some_body b || m)) n) (lists-same (not_last kind b m))

  at_each : (n : ℕ) (v : Name) (s : List Bool) (x b : Body) (m : Bool) →
      Lists (not_last kind (each n v s x b) m) (λ line. ((n ≡ line) × ((kind goes_on && (is_some_body b || m)) ≡ true))
      ⊎ In line (not_last kind b m))
  at_each n v s x b m = lists-append (line_if (kind goes_on && (is_some_body b || m)) n) (not_last kind b m)
      (lists-if (kind goes_on && (is_some_body b || m)) n) (lists-same (not_last kind b m))

  at_branch : (n : ℕ) (e : Expr) (x b : Body) (m : Bool) →
      Lists (not_last kind (branch n e x b) m)
      (λ line. ((n ≡ line) × ((kind (tests e) && (is_some_body x || is_some_body b || m)) ≡ true))
      ⊎ (In line (not_last kind x (is_some_body b || m)) ⊎ In line (not_last kind b m)))
  at_branch n e x b m =
      lists-append (line_if (kind (tests e) && (is_some_body x || is_some_body b || m)) n)
      (not_last kind x (is_some_body b || m) ++ not_last kind b m)
      (lists-if (kind (tests e) && (is_some_body x || is_some_body b || m)) n)
      (lists-both (not_last kind x (is_some_body b || m)) (not_last kind b m))

  at_branches : (n : ℕ) (e : Expr) (x y b : Body) (m : Bool) →
      Lists (not_last kind (branches n e x y b) m)
      (λ line. ((n ≡ line) × ((kind (tests e) && (is_some_body x || is_some_body y || is_some_body b || m)) ≡ true))
      ⊎ (In line (not_last kind x (is_some_body b || m)) ⊎ (In line (not_last kind y (is_some_body b || m))
      ⊎ In line (not_last kind b m))))
  at_branches n e x y b m =
      lists-append (line_if (kind (tests e) && (is_some_body x || is_some_body y || is_some_body b || m)) n)
      (not_last kind x (is_some_body b || m) ++ (not_last kind y (is_some_body b || m) ++ not_last kind b m))
      (lists-if (kind (tests e) && (is_some_body x || is_some_body y || is_some_body b || m)) n)
      (lists-append (not_last kind x (is_some_body b || m)) (not_last kind y (is_some_body b || m) ++ not_last kind b m)
      (lists-same (not_last kind x (is_some_body b || m)))
      (lists-both (not_last kind y (is_some_body b || m)) (not_last kind b m)))

  at_loop : (n : ℕ) (w : Name) (e : Expr) (x b : Body) (m : Bool) →
      Lists (not_last kind (loop n w e x b) m)
      (λ line. ((n ≡ line) × ((kind (repeats w e) && (is_some_body x || is_some_body b || m)) ≡ true))
      ⊎ (In line (not_last kind x true) ⊎ In line (not_last kind b m)))
  at_loop n w e x b m =
      lists-append (line_if (kind (repeats w e) && (is_some_body x || is_some_body b || m)) n)
      (not_last kind x true ++ not_last kind b m)
      (lists-if (kind (repeats w e) && (is_some_body x || is_some_body b || m)) n)
      (lists-both (not_last kind x true) (not_last kind b m))

  -- ---- what a path meets, the walk finds

  own : (line n : ℕ) (a m : Bool) (p : List Step) (d : Deed) → Le (is_some_path p) a →
      (n ≡ line) × (kind d ≡ true) × ((is_some_path p || m) ≡ true) → (n ≡ line) × ((kind d && (a || m)) ≡ true)
  own line n a m p d f h = (h.0, and-true (kind d) (a || m) h.1 (or-before (is_some_path p) a m f h.2))

  along : (line : ℕ) (c : Body) (q p : List Step) (m : Bool) → Path c q → Hit line (is_some_path q || m) p →
      Hit line (is_some_body c || m) p
  along line c q p m d h = hit-le line (is_some_path q || m) (is_some_body c || m) p
      (or-before (is_some_path q) (is_some_body c) m (some-le c q d)) h

  met : (line : ℕ) (b : Body) (p : List Step) (m : Bool) → Path b p → Hit line m p → In line (not_last kind b m)
  met line b p m ends h = absurd h
  met line b p m (goes {n = n} {s = s} {b = c} {p = q} d) (inl h) =
      (at_plain n s c m line).1 (inl (own line n (is_some_body c) m q (does s) (some-le c q d) h))
  met line b p m (goes {n = n} {s = s} {b = c} {p = q} d) (inr h) = (at_plain n s c m line).1 (inr (met line c q m d h))
  met line b p m (taken {n = n} {e = e} {x = x} {b = c} {p = u} {q = v} d f) (inl h) =
      (at_branch n e x c m line).1
      (inl (own line n (is_some_body x || is_some_body c) m (u ++ v) (tests e)
      (pair-le u v (is_some_body x) (is_some_body c) (some-le x u d) (some-le c v f)) h))
  met line b p m (taken {n = n} {e = e} {x = x} {b = c} {p = u} {q = v} d f) (inr h) =
      (at_branch n e x c m line).1 (inr (elim (hit-split line m u v h) [
        | inl i ↦ inl (met line x u (is_some_body c || m) d (along line c v u m f i))
        | inr i ↦ inr (met line c v m f i)
      ]))
  met line b p m (passed {n = n} {e = e} {x = x} {b = c} {q = v} f) (inl h) =
      (at_branch n e x c m line).1
      (inl (own line n (is_some_body x || is_some_body c) m v (tests e)
      (λ i. or-right (is_some_body x) (is_some_body c) (some-le c v f i)) h))
  met line b p m (passed {n = n} {e = e} {x = x} {b = c} {q = v} f) (inr h) =
      (at_branch n e x c m line).1 (inr (inr (met line c v m f h)))
  met line b p m (first {n = n} {e = e} {x = x} {y = y} {b = c} {p = u} {q = v} d f) (inl h) =
      (at_branches n e x y c m line).1 (inl (own line n (is_some_body x || is_some_body y || is_some_body c) m (u ++ v) (tests e)
      (pair-le u v (is_some_body x || is_some_body y) (is_some_body c)
      (λ i. or-left (is_some_body x) (is_some_body y) (some-le x u d i)) (some-le c v f)) h))
  met line b p m (first {n = n} {e = e} {x = x} {y = y} {b = c} {p = u} {q = v} d f) (inr h) =
      (at_branches n e x y c m line).1 (inr (elim (hit-split line m u v h) [
        | inl i ↦ inl (met line x u (is_some_body c || m) d (along line c v u m f i))
        | inr i ↦ inr (inr (met line c v m f i))
      ]))
  met line b p m (second {n = n} {e = e} {x = x} {y = y} {b = c} {p = u} {q = v} d f) (inl h) =
      (at_branches n e x y c m line).1 (inl (own line n (is_some_body x || is_some_body y || is_some_body c) m (u ++ v) (tests e)
      (pair-le u v (is_some_body x || is_some_body y) (is_some_body c)
      (λ i. or-right (is_some_body x) (is_some_body y) (some-le y u d i)) (some-le c v f)) h))
  met line b p m (second {n = n} {e = e} {x = x} {y = y} {b = c} {p = u} {q = v} d f) (inr h) =
      (at_branches n e x y c m line).1 (inr (elim (hit-split line m u v h) [
        | inl i ↦ inr (inl (met line y u (is_some_body c || m) d (along line c v u m f i)))
        | inr i ↦ inr (inr (met line c v m f i))
      ]))
  met line b p m (never {n = n} {v = w} {e = e} {x = x} {b = c} {q = v} f) (inl h) =
      (at_loop n w e x c m line).1
      (inl (own line n (is_some_body x || is_some_body c) m v (repeats w e)
      (λ i. or-right (is_some_body x) (is_some_body c) (some-le c v f i)) h))
  met line b p m (never {n = n} {v = w} {e = e} {x = x} {b = c} {q = v} f) (inr h) =
      (at_loop n w e x c m line).1 (inr (inr (met line c v m f h)))
  met line b p m (once {n = n} {v = w} {e = e} {x = x} {b = c} {p = u} {q = v} d f) (inl h) =
      (at_loop n w e x c m line).1
      (inl (own line n (is_some_body x || is_some_body c) m (u ++ v) (repeats w e)
      (pair-le u v (is_some_body x) (is_some_body c) (some-le x u d) (some-le c v f)) h))
  met line b p m (once {n = n} {v = w} {e = e} {x = x} {b = c} {p = u} {q = v} d f) (inr h) =
      (at_loop n w e x c m line).1 (inr (elim (hit-split line m u v h) [
        | inl i ↦ inl (met line x u true d (hit-le line (is_some_path v || m) true u (λ z. refl) i))
        | inr i ↦ inr (met line c v m f i)
      ]))
  met line b p m (twice {n = n} {v = w} {e = e} {x = x} {b = c} {p = u} {r = r} {q = v} d k f) (inl h) =
      (at_loop n w e x c m line).1 (inl (own line n (is_some_body x || is_some_body c) m (u ++ (r ++ v)) (repeats w e)
      (λ i. elim (or-split (is_some_path u) (is_some_path (r ++ v)) (sym (some-append u (r ++ v)) ∙ i)) [
        | inl j ↦ or-left (is_some_body x) (is_some_body c) (some-le x u d j)
        | inr j ↦ pair-le r v (is_some_body x) (is_some_body c) (some-le x r k) (some-le c v f) j
      ]) h))
  met line b p m (twice {n = n} {v = w} {e = e} {x = x} {b = c} {p = u} {r = r} {q = v} d k f) (inr h) =
      (at_loop n w e x c m line).1 (inr (elim (hit-split line m u (r ++ v) h) [
        | inl i ↦ inl (met line x u true d (hit-le line (is_some_path (r ++ v) || m) true u (λ z. refl) i))
        | inr i ↦ elim (hit-split line m r v i) [
          | inl j ↦ inl (met line x r true k (hit-le line (is_some_path v || m) true r (λ z. refl) j))
          | inr j ↦ inr (met line c v m f j)
        ]
      ]))
  met line b p m (over {n = n} {v = w} {s = s} {x = x} {b = c} {q = v} f) (inl h) =
      (at_each n w s x c m line).1 (inl (own line n (is_some_body c) m v goes_on (some-le c v f) h))
  met line b p m (over {n = n} {v = w} {s = s} {x = x} {b = c} {q = v} f) (inr h) =
      (at_each n w s x c m line).1 (inr (met line c v m f h))

  -- ---- what the walk finds, a path meets

  abbrev Met : ℕ → Body → Bool → Type 0
  Met line b m = (p : List Step) × Path b p × Hit line m p

  mine : (line n : ℕ) (a m : Bool) (p : List Step) (d : Deed) → Le a (is_some_path p) →
      (n ≡ line) × ((kind d && (a || m)) ≡ true) → (n ≡ line) × (kind d ≡ true) × ((is_some_path p || m) ≡ true)
  mine line n a m p d f h = let k = and-both (kind d) (a || m) h.1 in (h.0, k.0, or-before a (is_some_path p) m f k.1)

  back : (line : ℕ) (c : Body) (q p : List Step) (m : Bool) → Path c q → Hit line (is_some_body c || m) p →
      Hit line (is_some_path q || m) p
  back line c q p m d h = hit-le line (is_some_body c || m) (is_some_path q || m) p
      (or-before (is_some_body c) (is_some_path q) m (some-back c q d)) h

  some_of : (b : Body) → (p : List Step) × Path b p
  some_of b = let r = best kind b in (r.0, r.1)

  either : (line n : ℕ) (e : Expr) (x y b : Body) (m : Bool) →
      (n ≡ line) × ((kind (tests e) && (is_some_body x || is_some_body y || is_some_body b || m)) ≡ true) → (z : Bool) →
      is_some_body x ≡ z → Met line (branches n e x y b) m
  either line n e x y b m h true t =
      let u = some_of x in
      let v = some_of b in (
        step n (tests e) ∷ (u.0 ++ v.0),
        first u.1 v.1,
        inl (mine line n (is_some_body x || is_some_body y || is_some_body b) m (u.0 ++ v.0) (tests e)
            (pair-back u.0 v.0 (is_some_body x || is_some_body y) (is_some_body b) (λ i. some-back x u.0 u.1 t)
            (some-back b v.0 v.1)) h),
      )
  either line n e x y b m h false t =
      let u = some_of y in
      let v = some_of b in (
        step n (tests e) ∷ (u.0 ++ v.0),
        second u.1 v.1,
        inl (mine line n (is_some_body x || is_some_body y || is_some_body b) m (u.0 ++ v.0) (tests e)
            (pair-back u.0 v.0 (is_some_body x || is_some_body y) (is_some_body b)
            (λ i. elim (or-split (is_some_body x) (is_some_body y) i) [ inl c ↦ absurd (cc) | inr c ↦ some-back y u.0 u.1 c ])
            (some-back b v.0 v.1)) h),
      )

  found : (line : ℕ) (b : Body) (m : Bool) → In line (not_last kind b m) → Met line b m
  found line done m h = absurd h
  found line (plain n s b) m h = elim ((at_plain n s b m line).0 h) [
    | inl i ↦ let v = some_of b in (
      step n (does s) ∷ v.0,
      goes v.1,
      inl (mine line n (is_some_body b) m v.0 (does s) (some-back b v.0 v.1) i),
    )
    | inr i ↦ let r = found line b m i in (step n (does s) ∷ r.0, goes r.1, inr r.2)
  ]
  found line (branch n e x b) m h =
      let u = some_of x in
      let v = some_of b in
      elim ((at_branch n e x b m line).0 h) [
        | inl i ↦ (
          step n (tests e) ∷ (u.0 ++ v.0),
          taken u.1 v.1,
          inl (mine line n (is_some_body x || is_some_body b) m (u.0 ++ v.0) (tests e)
              (pair-back u.0 v.0 (is_some_body x) (is_some_body b) (some-back x u.0 u.1) (some-back b v.0 v.1)) i),
        )
        | inr i ↦ elim i [
          | inl j ↦ let r = found line x (is_some_body b || m) j in
              (step n (tests e) ∷ (r.0 ++ v.0), taken r.1 v.1, inr (hit-left line m r.0 v.0 (back line b v.0 r.0 m v.1 r.2)))
          | inr j ↦ let r = found line b m j in (
            step n (tests e) ∷ (u.0 ++ r.0),
            taken u.1 r.1,
            inr (hit-right line m u.0 r.0 r.2),
          )
        ]
      ]
  found line (branches n e x y b) m h =
      let u = some_of x in
      let v = some_of b in
      elim ((at_branches n e x y b m line).0 h) [
        | inl i ↦ either line n e x y b m i (is_some_body x) refl
        | inr i ↦ elim i [
          | inl j ↦ let r = found line x (is_some_body b || m) j in
              (step n (tests e) ∷ (r.0 ++ v.0), first r.1 v.1, inr (hit-left line m r.0 v.0 (back line b v.0 r.0 m v.1 r.2)))
          | inr j ↦ elim j [
            | inl k ↦ let r = found line y (is_some_body b || m) k in
                (step n (tests e) ∷ (r.0 ++ v.0), second r.1 v.1, inr (hit-left line m r.0 v.0 (back line b v.0 r.0 m v.1 r.2)))
            | inr k ↦ let r = found line b m k in (
              step n (tests e) ∷ (u.0 ++ r.0),
              first u.1 r.1,
              inr (hit-right line m u.0 r.0 r.2),
            )
          ]
        ]
      ]
  found line (loop n w e x b) m h =
      let u = some_of x in
      let v = some_of b in
      elim ((at_loop n w e x b m line).0 h) [
        | inl i ↦ (
          step n (repeats w e) ∷ (u.0 ++ v.0),
          once u.1 v.1,
          inl (mine line n (is_some_body x || is_some_body b) m (u.0 ++ v.0) (repeats w e)
              (pair-back u.0 v.0 (is_some_body x) (is_some_body b) (some-back x u.0 u.1) (some-back b v.0 v.1)) i),
        )
        | inr i ↦ elim i [
          | inl j ↦
              let r = found line x true j in (
                step n (repeats w e) ∷ (r.0 ++ (r.0 ++ v.0)),
                twice r.1 r.1 v.1,
                inr (hit-left line m r.0 (r.0 ++ v.0)
                    (hit-le line true (is_some_path (r.0 ++ v.0) || m) r.0
                    (λ z. or-left (is_some_path (r.0 ++ v.0)) m
                    (some-append r.0 v.0 ∙ or-left (is_some_path r.0) (is_some_path v.0) (hit-some line true r.0 r.2)))
                    r.2)),
              )
          | inr j ↦ let r = found line b m j in (step n (repeats w e) ∷ r.0, never r.1, inr r.2)
        ]
      ]
  found line (each n w s x b) m h = elim ((at_each n w s x b m line).0 h) [
    | inl i ↦ let v = some_of b in (
      step n goes_on ∷ v.0,
      over v.1,
      inl (mine line n (is_some_body b) m v.0 goes_on (some-back b v.0 v.1) i),
    )
    | inr i ↦ let r = found line b m i in (step n goes_on ∷ r.0, over r.1, inr r.2)
  ]

  pub not_last-is : (b : Body) → Lists (not_last kind b false) (λ line. (p : List Step) × Path b p × NotLast kind line p)
  not_last-is b line = (
    λ h. let r = found line b false h in (r.0, r.1, hit-last line r.0 r.2),
    λ h. met line b h.0 false h.1 (last-hit line h.0 h.2),
  )
