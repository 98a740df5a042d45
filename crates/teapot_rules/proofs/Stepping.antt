-- Walks over a list of statements, one at a time.
use Rattle.std.proofs.Common.{◌≡◌, ℕ, zero, suc, ◌+◌, ◌<◌, ◌≤◌, min, Bool, true, false, List, [], ◌∷◌, ◌++◌, drop, length}
use Rattle.std.proofs.Common.{get_or, nat_lt, Some, None, refl, ap, sym, ◌∙◌, arith}
use Rattle.std.specs.Prelude.{◌||◌}
use Rattle.std.specs.List.{list_any}
use Rattle.std.proofs.Common.{inl, inr}
use Rattle.std.proofs.Math.ListN.{drop_of_length-le}
use Rattle.std.proofs.lemmas.Bool.{cases_lt, lt-ltb, le-ltb}
use Rattle.std.proofs.lemmas.List.{drop_more, append-nil}
use Rattle.teapot_tree.specs.declared.stmt.Do.{Do, out-Do}
use Rattle.teapot_tree.specs.declared.stmt.Do.TheOpen.{Do-F}
use Rattle.teapot_tree.specs.declared.stmt.Stmt.{Stmt}
use Rattle.teapot_tree.specs.declared.expr.Expr.{Expr}
use Rattle.tw_base.specs.declared.name.Name.{Name}
use Rattle.teapot_tree.specs.Bodies.{Body, done, branch, branches, loop, body_of}
use Rattle.teapot_tree.specs.Paths.{Deed, tests, repeats, Step, steps_in}
use Rattle.teapot_rules.specs.Lists.{line_if, lesser, least}
use Rattle.teapot_rules.specs.Stmts.{append, layer_body, stmt_body}
use Rattle.teapot_rules.specs.Walks.{meets, is_some_body, walk, most}
use Rattle.teapot_rules.proofs.Follows.{met-append}
use Rattle.teapot_rules.proofs.Appending.{body-cons, meets-append, most-append, walk-append, least-append}

pub body-drop : (ss : List Stmt) (i : ℕ) (s : Stmt) → i < length ss → s ≡ get_or ss i s →
    body_of (drop i ss) ≡ append (stmt_body s) (body_of (drop (i + 1) ss))
body-drop ss i s lt is = ap body_of (drop_more ss i s lt) ∙ ap (λ z. body_of (z ∷ drop (i + 1) ss)) (sym is)
    ∙ body-cons s (drop (i + 1) ss)

pub meets_step : (one : Deed → Bool) (ss : List Stmt) (i : ℕ) (s : Stmt) → i < length ss → s ≡ get_or ss i s →
    meets one (body_of (drop i ss)) ≡ (meets one (stmt_body s) || meets one (body_of (drop (i + 1) ss)))
meets_step one ss i s lt is = ap (meets one) (body-drop ss i s lt is) ∙ meets-append one (stmt_body s) (body_of (drop (i + 1) ss))

-- a statement that meets the test
pub meets_here : (one : Deed → Bool) (ss : List Stmt) (i : ℕ) (s : Stmt) → i < length ss → s ≡ get_or ss i s →
    meets one (body_of ss) ≡ meets one (body_of (drop i ss)) → meets one (stmt_body s) ≡ true → true ≡ meets one (body_of ss)
meets_here one ss i s lt is same met = sym (same ∙ meets_step one ss i s lt is
    ∙ ap (λ z. z || meets one (body_of (drop (i + 1) ss))) met)

-- one that does not
pub meets_past : (one : Deed → Bool) (ss : List Stmt) (i : ℕ) (s : Stmt) → i < length ss → s ≡ get_or ss i s →
    meets one (body_of ss) ≡ meets one (body_of (drop i ss)) → meets one (stmt_body s) ≡ false →
    meets one (body_of ss) ≡ meets one (body_of (drop (i + 1) ss))
meets_past one ss i s lt is same missed = same ∙ meets_step one ss i s lt is
    ∙ ap (λ z. z || meets one (body_of (drop (i + 1) ss))) missed

pub most_step : (ss : List Stmt) (i : ℕ) (s : Stmt) → i < length ss → s ≡ get_or ss i s →
    most (body_of (drop i ss)) ≡ most (stmt_body s) + most (body_of (drop (i + 1) ss))
most_step ss i s lt is = ap most (body-drop ss i s lt is) ∙ most-append (stmt_body s) (body_of (drop (i + 1) ss))

least-sum : (due sum a b one next : ℕ) → due ≡ min 33 (sum + (a + b)) → one ≡ min 33 a → next ≡ min 33 (sum + one) →
    due ≡ min 33 (next + b)
least-sum due sum a b one next e f g = omega arith

-- the count so far, with one statement more
pub most_more : (ss : List Stmt) (i : ℕ) (s : Stmt) (sum one next : ℕ) → i < length ss → s ≡ get_or ss i s →
    min 33 (most (body_of ss)) ≡ min 33 (sum + most (body_of (drop i ss))) →
    one ≡ min 33 (most (stmt_body s)) → next ≡ min 33 (sum + one) →
    min 33 (most (body_of ss)) ≡ min 33 (next + most (body_of (drop (i + 1) ss)))
most_more ss i s sum one next lt is same f g =
    least-sum (min 33 (most (body_of ss))) sum (most (stmt_body s)) (most (body_of (drop (i + 1) ss))) one next
    (same ∙ ap (λ z. min 33 (sum + z)) (most_step ss i s lt is)) f g

pub few_enough : (next n : ℕ) → next ≡ min 33 n → next ≤ 33
few_enough next n e = omega arith

some-layer : (line : ℕ) (l : Do-F Do Stmt) (b : Body) → is_some_body (append (layer_body line l) b) ≡ true
some-layer line (Do-F.Assign n e) b = refl
some-layer line (Do-F.If e xs None) b = refl
some-layer line (Do-F.If e xs (Some ys)) b = refl
some-layer line (Do-F.Send e n xs) b = refl
some-layer line (Do-F.SendAll e n xs) b = refl
some-layer line (Do-F.SetTag t) b = refl
some-layer line (Do-F.SetState n xs) b = refl
some-layer line (Do-F.Suspend l n xs p) b = refl
some-layer line (Do-F.Resume n) b = refl
some-layer line Do-F.Install b = refl
some-layer line Do-F.Enqueue b = refl
some-layer line Do-F.WakeUp b = refl
some-layer line (Do-F.Error n) b = refl
some-layer line (Do-F.ForEach n e xs) b = refl
some-layer line (Do-F.Each n t xs) b = refl

abbrev some_left : List Stmt → Bool
some_left [] = false
some_left (s ∷ ss) = true

some-body : (ss : List Stmt) → is_some_body (body_of ss) ≡ some_left ss
some-body [] = refl
some-body (s ∷ ss) = ap is_some_body (body-cons s ss) ∙ some-layer s.line (out-Do s.what) (body_of ss)

some-lt : (ss : List Stmt) (i : ℕ) → i < length ss → some_left (drop i ss) ≡ true
some-lt [] i lt = absurd (omega arith)
some-lt (s ∷ ss) zero lt = refl
some-lt (s ∷ ss) (suc i) lt = some-lt ss i (omega arith)

left-drop : (ss : List Stmt) (i : ℕ) → some_left (drop i ss) ≡ nat_lt i (length ss)
left-drop ss i = elim (cases_lt i (length ss)) [
  | inl lt ↦ some-lt ss i lt ∙ sym (lt-ltb i (length ss) lt)
  | inr ge ↦ ap some_left (drop_of_length-le ss ge) ∙ sym (le-ltb i (length ss) ge)
]

pub some_drop : (ss : List Stmt) (i : ℕ) → is_some_body (body_of (drop i ss)) ≡ nat_lt i (length ss)
some_drop ss i = some-body (drop i ss) ∙ left-drop ss i

pub walk_step : (one : Deed → Bool) (test : Bool → Bool → Deed → Bool) (ss : List Stmt) (i : ℕ) (s : Stmt) (had more : Bool) →
    i < length ss → s ≡ get_or ss i s →
    least (walk one test (body_of (drop i ss)) had more)
    ≡ lesser (least (walk one test (stmt_body s) had (nat_lt (i + 1) (length ss) || more)))
    (least (walk one test (body_of (drop (i + 1) ss)) (had || meets one (stmt_body s)) more))
walk_step one test ss i s had more lt is =
    ap (λ z. least (walk one test z had more)) (body-drop ss i s lt is)
    ∙ ap least (walk-append one test (stmt_body s) (body_of (drop (i + 1) ss)) had more)
    ∙ least-append (walk one test (stmt_body s) had (is_some_body (body_of (drop (i + 1) ss)) || more))
    (walk one test (body_of (drop (i + 1) ss)) (had || meets one (stmt_body s)) more)
    ∙ ap (λ z. lesser (least (walk one test (stmt_body s) had (z || more)))
    (least (walk one test (body_of (drop (i + 1) ss)) (had || meets one (stmt_body s)) more))) (some_drop ss (i + 1))

-- ---- one statement, by its kind

met-nil : (test : Deed → Bool) (x : Body) → list_any (λ (s : Step). test s.deed) (steps_in x ++ []) ≡ meets test x
met-nil test x = ap (λ z. list_any (λ (s : Step). test s.deed) z) (append-nil (steps_in x))

pub meets_branch : (one : Deed → Bool) (line : ℕ) (e : Expr) (x : Body) →
    meets one (branch line e x done) ≡ (one (tests e) || meets one x)
meets_branch one line e x = ap (λ z. one (tests e) || z) (met-nil one x)

pub meets_branches : (one : Deed → Bool) (line : ℕ) (e : Expr) (x y : Body) →
    meets one (branches line e x y done) ≡ (one (tests e) || (meets one x || meets one y))
meets_branches one line e x y = ap (λ z. one (tests e) || z)
    (met-append one (steps_in x) (steps_in y ++ []) ∙ ap (λ z. meets one x || z) (met-nil one y))

pub meets_loop : (one : Deed → Bool) (line : ℕ) (v : Name) (e : Expr) (x : Body) →
    meets one (loop line v e x done) ≡ (one (repeats v e) || meets one x)
meets_loop one line v e x = ap (λ z. one (repeats v e) || z) (met-nil one x)

pub walk_branch : (one : Deed → Bool) (test : Bool → Bool → Deed → Bool) (line : ℕ) (e : Expr) (x : Body) (had more : Bool) →
    least (walk one test (branch line e x done) had more) ≡ lesser (least (line_if (test had more (tests e)) line))
    (least (walk one test x (had || one (tests e)) more))
walk_branch one test line e x had more =
    least-append (line_if (test had more (tests e)) line) (walk one test x (had || one (tests e)) more ++ [])
    ∙ ap (λ z. lesser (least (line_if (test had more (tests e)) line)) (least z))
    (append-nil (walk one test x (had || one (tests e)) more))

pub walk_branches : (one : Deed → Bool) (test : Bool → Bool → Deed → Bool) (line : ℕ) (e : Expr) (x y : Body) (had more : Bool) →
    least (walk one test (branches line e x y done) had more)
    ≡ lesser (least (line_if (test had more (tests e)) line))
    (lesser (least (walk one test x (had || one (tests e)) more)) (least (walk one test y (had || one (tests e)) more)))
walk_branches one test line e x y had more =
    least-append (line_if (test had more (tests e)) line) (walk one test x (had || one (tests e)) more
    ++ (walk one test y (had || one (tests e)) more ++ []))
    ∙ ap (λ z. lesser (least (line_if (test had more (tests e)) line)) z)
    (least-append (walk one test x (had || one (tests e)) more) (walk one test y (had || one (tests e)) more ++ [])
    ∙ ap (λ z. lesser (least (walk one test x (had || one (tests e)) more)) (least z))
    (append-nil (walk one test y (had || one (tests e)) more)))

pub walk_loop : (one : Deed → Bool) (test : Bool → Bool → Deed → Bool) (line : ℕ) (v : Name) (e : Expr) (x : Body)
    (had more : Bool) →
    least (walk one test (loop line v e x done) had more) ≡ lesser (least (line_if (test had more (repeats v e)) line))
    (least (walk one test x (had || one (repeats v e) || meets one x) true))
walk_loop one test line v e x had more =
    least-append (line_if (test had more (repeats v e)) line)
    (walk one test x (had || one (repeats v e) || meets one x) true ++ [])
    ∙ ap (λ z. lesser (least (line_if (test had more (repeats v e)) line)) (least z))
    (append-nil (walk one test x (had || one (repeats v e) || meets one x) true))
