-- The code of one statement more.
use Rattle.std.proofs.Common.{◌≡◌, ℕ, zero, suc, ◌+◌, ◌<◌, List, [], ◌∷◌, ◌++◌, length, refl, sym, ap, subst, arith, ◌∙◌, take}
use Rattle.std.proofs.Common.{get_or, append_assoc, length-append}
use Rattle.std.specs.Prelude.{map}
use Rattle.tw_base.specs.declared.name.Name.{Name}
use Rattle.teapot_tree.specs.declared.protocol.Protocol.{Protocol}
use Rattle.teapot_tree.specs.declared.stmt.Stmt.{Stmt}
use Rattle.compiled_meaning.specs.Compiled.{Piece, code_of, in_order, loops_in, rests_in, stmt_code}
use Rattle.suspend_split.proofs.Counts.{loops_in_append, rests_in_append}

append-nil : {A : Type 0} (xs : List A) → xs ++ [] ≡ xs
append-nil [] = refl
append-nil (x ∷ xs) = ap (λ l. x ∷ l) (append-nil xs)

-- the last piece at its place
in_order_more : (f : Stmt → Piece) (stmts : List Stmt) (i : ℕ) (s : Stmt) → i < length stmts → get_or stmts i s ≡ s →
    (at r h a b c : ℕ) → a ≡ at + length (in_order (map f (take i stmts)) at r h) →
    b ≡ r + rests_in (in_order (map f (take i stmts)) at r h) → c ≡ h + loops_in (in_order (map f (take i stmts)) at r h) →
    in_order (map f (take (suc i) stmts)) at r h ≡ in_order (map f (take i stmts)) at r h ++ f s a b c
in_order_more f [] i s lt e at r h a b c x y z = absurd (omega arith)
in_order_more f (t ∷ stmts) zero s lt e at r h a b c x y z =
    let e1 : a ≡ at = omega (arith, x) in
    let e2 : b ≡ r = omega (arith, y) in
    let e3 : c ≡ h = omega (arith, z) in
    append-nil (f t at r h) ∙ ap (λ q. f q at r h) e ∙ sym (ap (λ q. f s q b c) e1 ∙ ap (λ q. f s at q c) e2
    ∙ ap (λ q. f s at r q) e3)
in_order_more f (t ∷ stmts) (suc i) s lt e at r h a b c x y z =
    let d = f t at r h in
    let others = in_order (map f (take i stmts)) (at + length d) (r + rests_in d) (h + loops_in d) in
    ap (λ l. d ++ l) (in_order_more f stmts i s (omega arith) e (at + length d) (r + rests_in d) (h + loops_in d) a b c
    (omega (arith, x, length-append d others)) (omega (arith, y, rests_in_append d others))
    (omega (arith, z, loops_in_append d others))) ∙ sym (append_assoc d others (f s a b c))

pub code_more : (p : Protocol) (names : List Name) (stmts : List Stmt) (i : ℕ) (s : Stmt) → i < length stmts →
    get_or stmts i s ≡ s → (at r h a b c : ℕ) → a ≡ at + length (code_of p names (take i stmts) at r h) →
    b ≡ r + rests_in (code_of p names (take i stmts) at r h) → c ≡ h + loops_in (code_of p names (take i stmts) at r h) →
    code_of p names (take (i + 1) stmts) at r h ≡ code_of p names (take i stmts) at r h ++ stmt_code p names s a b c
code_more p names stmts i s lt e at r h a b c x y z =
    let one : suc i ≡ i + 1 = omega arith in
    subst (λ n. code_of p names (take n stmts) at r h ≡ code_of p names (take i stmts) at r h ++ stmt_code p names s a b c) one
    (in_order_more (stmt_code p names) stmts i s lt e at r h a b c x y z)
