-- How many loops there are, a statement at a time.
use Rattle.std.proofs.Common.{◌≡◌, ℕ, ◌+◌, ◌<◌, ◌≤◌, min, List, drop, length, get_or, ap, ◌∙◌, arith}
use Rattle.teapot_tree.specs.declared.stmt.Stmt.{Stmt}
use Rattle.teapot_tree.specs.Bodies.{Body, done, plain, branch, branches, loop, each, body_of}
use Rattle.teapot_tree.specs.Parts.{loops}
use Rattle.teapot_rules.specs.Stmts.{append, stmt_body}
use Rattle.teapot_rules.proofs.Stepping.{body-drop}

loops-append : (a b : Body) → loops (append a b) ≡ loops a + loops b
loops-append done b = omega arith
loops-append (plain n s c) b = loops-append c b
loops-append (branch n e x c) b = let i = loops-append c b in omega arith
loops-append (branches n e x y c) b = let i = loops-append c b in omega arith
loops-append (loop n v e x c) b = let i = loops-append c b in omega arith
loops-append (each n v s x c) b = let i = loops-append c b in omega arith

loops-step : (ss : List Stmt) (i : ℕ) (s : Stmt) → i < length ss → s ≡ get_or ss i s →
    loops (body_of (drop i ss)) ≡ loops (stmt_body s) + loops (body_of (drop (i + 1) ss))
loops-step ss i s lt is = ap loops (body-drop ss i s lt is) ∙ loops-append (stmt_body s) (body_of (drop (i + 1) ss))

least-sum : (due sum a b one next : ℕ) → due ≡ min 256 (sum + (a + b)) → one ≡ min 256 a → next ≡ min 256 (sum + one) →
    due ≡ min 256 (next + b)
least-sum due sum a b one next e f g = omega arith

-- the count so far, with one statement more
pub loops_more : (ss : List Stmt) (i : ℕ) (s : Stmt) (sum one next : ℕ) → i < length ss → s ≡ get_or ss i s →
    min 256 (loops (body_of ss)) ≡ min 256 (sum + loops (body_of (drop i ss))) →
    one ≡ min 256 (loops (stmt_body s)) → next ≡ min 256 (sum + one) →
    min 256 (loops (body_of ss)) ≡ min 256 (next + loops (body_of (drop (i + 1) ss)))
loops_more ss i s sum one next lt is same f g =
    least-sum (min 256 (loops (body_of ss))) sum (loops (stmt_body s)) (loops (body_of (drop (i + 1) ss))) one next
    (same ∙ ap (λ z. min 256 (sum + z)) (loops-step ss i s lt is)) f g

pub few_enough : (next n : ℕ) → next ≡ min 256 n → next ≤ 256
few_enough next n e = omega arith
