-- Walks over one body after another.
use Rattle.std.proofs.Common.{◌≡◌, ℕ, ◌+◌, Bool, true, false, List, [], ◌∷◌, ◌++◌, map, Option, Some, None, refl, ap, sym, ◌∙◌}
use Rattle.std.proofs.Common.{append_assoc, arith}
use Rattle.std.specs.Prelude.{◌&&◌, ◌||◌}
use Rattle.std.specs.List.{list_any, flat_map}
use Rattle.teapot_tree.specs.declared.stmt.Do.{Do, out-Do, roll-out-Do, map-Do}
use Rattle.teapot_tree.specs.declared.stmt.Do.TheOpen.{Do-F}
use Rattle.teapot_tree.specs.declared.stmt.Stmt.{Stmt}
use Rattle.teapot_tree.specs.Bodies.{Body, done, plain, branch, branches, loop, each, put, put_step, before_all, body_of}
use Rattle.teapot_tree.specs.Paths.{Deed, does, tests, repeats, goes_on, Step, step, steps_in, is_resume}
use Rattle.teapot_tree.proofs.Iso.{put_do, put-layer, before-is}
use Rattle.teapot_rules.specs.Lists.{line_if, lesser, least}
use Rattle.teapot_rules.specs.Stmts.{append, layer_body, stmt_body}
use Rattle.teapot_rules.specs.Walks.{step_lines, meets, follow, not_last, is_some_body, walk, most}
use Rattle.teapot_rules.proofs.Follows.{or-assoc, met-append}

-- ---- a statement before others

layer-put : (s : Stmt) (l : Do-F Do Stmt) (b : Body) → put_step
    (map-Do Do Stmt (ℕ → Body → Body) (Body → Body) put_do put l) s.line b ≡ append (layer_body s.line l) b
layer-put s (Do-F.Assign n e) b = refl
layer-put s (Do-F.If e xs None) b = ap (λ z. branch s.line e z b) (before-is xs done)
layer-put s (Do-F.If e xs (Some ys)) b = ap (λ z. branches s.line e z (before_all (map put ys) done) b) (before-is xs done)
    ∙ ap (λ z. branches s.line e (body_of xs) z b) (before-is ys done)
layer-put s (Do-F.Send e n xs) b = refl
layer-put s (Do-F.SendAll e n xs) b = refl
layer-put s (Do-F.SetTag t) b = refl
layer-put s (Do-F.SetState n xs) b = refl
layer-put s (Do-F.Suspend l n xs p) b = refl
layer-put s (Do-F.Resume n) b = refl
layer-put s Do-F.Install b = refl
layer-put s Do-F.Enqueue b = refl
layer-put s Do-F.WakeUp b = refl
layer-put s (Do-F.Error n) b = refl
layer-put s (Do-F.ForEach n e xs) b = ap (λ z. loop s.line n e z b) (before-is xs done)
layer-put s (Do-F.Each n t xs) b = ap (λ z. each s.line n t z b) (before-is xs done)

pub body-cons : (s : Stmt) (ss : List Stmt) → body_of (s ∷ ss) ≡ append (stmt_body s) (body_of ss)
body-cons s ss = put-layer s (out-Do s.what) (body_of ss) (roll-out-Do s.what) ∙ layer-put s (out-Do s.what) (body_of ss)

-- ---- steps

pub steps-append : (a b : Body) → steps_in (append a b) ≡ steps_in a ++ steps_in b
steps-append done b = refl
steps-append (plain n s c) b = ap (λ z. step n (does s) ∷ z) (steps-append c b)
steps-append (branch n e x c) b = ap (λ z. step n (tests e) ∷ (steps_in x ++ z)) (steps-append c b)
    ∙ ap (λ z. step n (tests e) ∷ z) (sym (append_assoc (steps_in x) (steps_in c) (steps_in b)))
steps-append (branches n e x y c) b =
    ap (λ z. step n (tests e) ∷ (steps_in x ++ (steps_in y ++ z))) (steps-append c b)
    ∙ ap (λ z. step n (tests e) ∷ (steps_in x ++ z)) (sym (append_assoc (steps_in y) (steps_in c) (steps_in b)))
    ∙ ap (λ z. step n (tests e) ∷ z) (sym (append_assoc (steps_in x) (steps_in y ++ steps_in c) (steps_in b)))
steps-append (loop n v e x c) b = ap (λ z. step n (repeats v e) ∷ (steps_in x ++ z)) (steps-append c b)
    ∙ ap (λ z. step n (repeats v e) ∷ z) (sym (append_assoc (steps_in x) (steps_in c) (steps_in b)))
steps-append (each n v s x c) b = ap (λ z. step n goes_on ∷ z) (steps-append c b)

pub meets-append : (test : Deed → Bool) (a b : Body) → meets test (append a b) ≡ (meets test a || meets test b)
meets-append test a b = ap (λ z. list_any (λ (s : Step). test s.deed) z) (steps-append a b)
    ∙ met-append test (steps_in a) (steps_in b)

pub most-append : (a b : Body) → most (append a b) ≡ most a + most b
most-append done b = omega arith
most-append (plain n s c) b = let i = most-append c b in omega arith
most-append (branch n e x c) b = let i = most-append c b in omega arith
most-append (branches n e x y c) b = let i = most-append c b in omega arith
most-append (loop n v e x c) b = let i = most-append c b in omega arith
most-append (each n v s x c) b = most-append c b

pub some-append-body : (a b : Body) → is_some_body (append a b) ≡ (is_some_body a || is_some_body b)
some-append-body done b = refl
some-append-body (plain n s c) b = refl
some-append-body (branch n e x c) b = refl
some-append-body (branches n e x y c) b = refl
some-append-body (loop n v e x c) b = refl
some-append-body (each n v s x c) b = refl

-- ---- the walk

or-false : (a : Bool) → (a || false) ≡ a
or-false true = refl
or-false false = refl

module _ (one : Deed → Bool) (test : Bool → Bool → Deed → Bool) where
  more-is : (c b : Body) (more : Bool) → (is_some_body (append c b) || more) ≡ (is_some_body c || (is_some_body b || more))
  more-is c b more = ap (λ z. z || more) (some-append-body c b) ∙ or-assoc (is_some_body c) (is_some_body b) more

  had-is : (had : Bool) (x c : Bool) → (had || x || c) ≡ (had || (x || c))
  had-is had x c = or-assoc had x c

  pub walk-append : (a b : Body) (had more : Bool) → walk one test (append a b) had more
      ≡ walk one test a had (is_some_body b || more) ++ walk one test b (had || meets one a) more
  walk-append done b had more = ap (λ z. walk one test b z more) (sym (or-false had))
  walk-append (plain n s c) b had more = rw (more-is c b more, walk-append c b (had || one (does s)) more)
      (simp (append_assoc, or-assoc))
  walk-append (branch n e x c) b had more = rw (more-is c b more, walk-append c b (had || one (tests e) || meets one x) more)
      (simp (append_assoc, or-assoc, met-append one))
  walk-append (branches n e x y c) b had more = rw (
    more-is c b more,
    walk-append c b (had || one (tests e) || meets one x || meets one y) more,
  ) (simp (append_assoc, or-assoc, met-append one))
  walk-append (loop n v e x c) b had more = rw (
    more-is c b more,
    walk-append c b (had || one (repeats v e) || meets one x) more,
  ) (simp (append_assoc, or-assoc, met-append one))
  walk-append (each n v s x c) b had more = rw (more-is c b more, walk-append c b (had || one goes_on) more)
      (simp (append_assoc, or-assoc))

-- ---- least lines

pub lesser-assoc : (a b c : Option ℕ) → lesser (lesser a b) c ≡ lesser a (lesser b c)
lesser-assoc None b c = refl
lesser-assoc (Some a) None c = refl
lesser-assoc (Some a) (Some b) None = refl
lesser-assoc (Some a) (Some b) (Some c) = ap (λ z. Some z) (omega arith)

pub lesser-none : (a : Option ℕ) → lesser a None ≡ a
lesser-none None = refl
lesser-none (Some a) = refl

pub least-append : (xs ys : List ℕ) → least (xs ++ ys) ≡ lesser (least xs) (least ys)
least-append [] ys = refl
least-append (x ∷ xs) ys = ap (λ z. lesser (Some x) z) (least-append xs ys) ∙ sym (lesser-assoc (Some x) (least xs) (least ys))

-- ---- what each rule's walk is

pub follow-walk : (one other : Deed → Bool) (b : Body) (had more : Bool) →
    walk one (λ h m d. h && other d) b had more ≡ follow one other b had
follow-walk one other done had more = refl
follow-walk one other (plain n s c) had more = ap (λ z. line_if (had && other (does s)) n ++ z)
    (follow-walk one other c (had || one (does s)) more)
follow-walk one other (branch n e x c) had more =
    rw (
      follow-walk one other x (had || one (tests e)) (is_some_body c || more),
      follow-walk one other c (had || one (tests e) || meets one x) more,
    ) refl
follow-walk one other (branches n e x y c) had more =
    rw (
      follow-walk one other x (had || one (tests e)) (is_some_body c || more),
      follow-walk one other y (had || one (tests e)) (is_some_body c || more),
      follow-walk one other c (had || one (tests e) || meets one x || meets one y) more,
    ) refl
follow-walk one other (loop n v e x c) had more =
    rw (
      follow-walk one other x (had || one (repeats v e) || meets one x) true,
      follow-walk one other c (had || one (repeats v e) || meets one x) more,
    ) refl
follow-walk one other (each n v s x c) had more = ap (λ z. line_if (had && other goes_on) n ++ z)
    (follow-walk one other c (had || one goes_on) more)

pub last-walk : (one : Deed → Bool) (b : Body) (had more : Bool) →
    walk one (λ h m d. is_resume d && m) b had more ≡ not_last is_resume b more
last-walk one done had more = refl
last-walk one (plain n s c) had more = ap (λ z. line_if (is_resume (does s) && (is_some_body c || more)) n ++ z)
    (last-walk one c (had || one (does s)) more)
last-walk one (branch n e x c) had more =
    rw (
      last-walk one x (had || one (tests e)) (is_some_body c || more),
      last-walk one c (had || one (tests e) || meets one x) more,
    ) refl
last-walk one (branches n e x y c) had more =
    rw (
      last-walk one x (had || one (tests e)) (is_some_body c || more),
      last-walk one y (had || one (tests e)) (is_some_body c || more),
      last-walk one c (had || one (tests e) || meets one x || meets one y) more,
    ) refl
last-walk one (loop n v e x c) had more =
    rw (
      last-walk one x (had || one (repeats v e) || meets one x) true,
      last-walk one c (had || one (repeats v e) || meets one x) more,
    ) refl
last-walk one (each n v s x c) had more = last-walk one c (had || one goes_on) more

flat-append : (f : Step → List ℕ) (xs ys : List Step) → flat_map f (xs ++ ys) ≡ flat_map f xs ++ flat_map f ys
flat-append f [] ys = refl
flat-append f (x ∷ xs) ys = ap (λ z. f x ++ z) (flat-append f xs ys) ∙ sym (append_assoc (f x) (flat_map f xs) (flat_map f ys))

pub steps-walk : (one test : Deed → Bool) (b : Body) (had more : Bool) → walk one (λ h m d. test d) b had more ≡ step_lines test b
steps-walk one test done had more = refl
steps-walk one test (plain n s c) had more = ap (λ z. line_if (test (does s)) n ++ z)
    (steps-walk one test c (had || one (does s)) more)
steps-walk one test (branch n e x c) had more =
    rw (
      steps-walk one test x (had || one (tests e)) (is_some_body c || more),
      steps-walk one test c (had || one (tests e) || meets one x) more,
    )
    (ap (λ z. line_if (test (tests e)) n ++ z)
    (sym (flat-append (λ (s : Step). line_if (test s.deed) s.line) (steps_in x) (steps_in c))))
steps-walk one test (branches n e x y c) had more =
    rw (
      steps-walk one test x (had || one (tests e)) (is_some_body c || more),
      steps-walk one test y (had || one (tests e)) (is_some_body c || more),
      steps-walk one test c (had || one (tests e) || meets one x || meets one y) more,
    )
    (ap (λ z. line_if (test (tests e)) n ++ z)
    (ap (λ z. step_lines test x ++ z)
    (sym (flat-append (λ (s : Step). line_if (test s.deed) s.line) (steps_in y) (steps_in c)))
    ∙ sym (flat-append (λ (s : Step). line_if (test s.deed) s.line) (steps_in x) (steps_in y ++ steps_in c))))
steps-walk one test (loop n v e x c) had more =
    rw (
      steps-walk one test x (had || one (repeats v e) || meets one x) true,
      steps-walk one test c (had || one (repeats v e) || meets one x) more,
    )
    (ap (λ z. line_if (test (repeats v e)) n ++ z)
    (sym (flat-append (λ (s : Step). line_if (test s.deed) s.line) (steps_in x) (steps_in c))))
steps-walk one test (each n v s x c) had more = ap (λ z. line_if (test goes_on) n ++ z)
    (steps-walk one test c (had || one goes_on) more)
