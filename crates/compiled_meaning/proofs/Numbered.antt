-- Compiled code numbers its rests.
use Rattle.std.proofs.Common.{◌≡◌, ℕ, zero, suc, ◌+◌, ◌<◌, List, [], ◌∷◌, ◌++◌, length, Option, Some, None, refl, sym, subst}
use Rattle.std.proofs.Common.{arith}
use Rattle.std.specs.Prelude.{codes}
use Rattle.tw_base.specs.declared.name.Name.{Name}
use Rattle.teapot_tree.specs.declared.expr.Expr.{Expr, out-Expr}
use Rattle.teapot_tree.specs.declared.expr.Expr.TheOpen.{Expr-F}
use Rattle.teapot_tree.specs.declared.protocol.Protocol.{Protocol}
use Rattle.teapot_tree.specs.declared.stmt.Do.TheOpen.{Do-F}
use Rattle.teapot_tree.specs.declared.stmt.Stmt.{Stmt}
use Rattle.teapot_meaning.specs.Layers.{Layer, what_of}
use Rattle.teapot_meaning.specs.Names.{info_number}
use Rattle.handler_code.specs.declared.code.OpCode.{OpCode}
use Rattle.handler_code.specs.declared.code.OpCode.TheVariants as op
use Rattle.compiled_meaning.specs.Follows.{get_op, plain_op, put_op, slot_of}
use Rattle.compiled_meaning.specs.Compiled.{Piece, all_code, code_of, expr_code, loops_in, op_list, rests_in, stmt_code}
use Rattle.compiled_meaning.proofs.Fine.{Fine}
use Rattle.compiled_meaning.proofs.Fine as fine
use Rattle.compiled_meaning.proofs.Placed.{by_layer, expr_code-is, layer_code, layer_expr, size, size-is}
use Rattle.compiled_meaning.proofs.Rests.{NumberedFrom, numbered-append, rests_in-append}

-- ops with no rest
record Quiet (ops : List OpCode) : Type 0 where
  numbered : (r : ℕ) → NumberedFrom r ops
  empty : rests_in ops ≡ 0

quiet_before : (a b : List OpCode) (r : ℕ) → Quiet a → NumberedFrom r b → NumberedFrom r (a ++ b)
quiet_before a b r q h =
    let e : r ≡ r + rests_in a = omega (arith, q.empty) in
    numbered-append a b r (q.numbered r) (subst (λ n. NumberedFrom n b) e h)

quiet-append : (a b : List OpCode) → Quiet a → Quiet b → Quiet (a ++ b)
quiet-append a b q s =
    record { numbered = λ r. quiet_before a b r q (s.numbered r); empty = omega (arith, rests_in-append a b, q.empty, s.empty) }

quiet_get : (i j : Option ℕ) → Quiet (get_op i j ∷ [])
quiet_get (Some k) j = record { numbered = λ r. (tt, tt); empty = refl }
quiet_get None (Some k) = record { numbered = λ r. (tt, tt); empty = refl }
quiet_get None None = record { numbered = λ r. (tt, tt); empty = refl }

quiet_put : (i j : Option ℕ) → Quiet (op_list (put_op i j))
quiet_put (Some k) j = record { numbered = λ r. (tt, tt); empty = refl }
quiet_put None (Some k) = record { numbered = λ r. (tt, tt); empty = refl }
quiet_put None None = record { numbered = λ r. tt; empty = refl }

module _ (p : Protocol) (names : List Name) where
  layer_quiet : (n : ℕ) → ((e : Expr) → size e < n → Quiet (expr_code p names e)) → (e : Expr) (l : Expr-F Expr) →
      out-Expr e ≡ l → size e < suc n → Quiet (layer_expr p names l)
  unfolding layer_expr
  layer_quiet n ih e (Expr-F.Var name) d lt = quiet_get (slot_of names name) (info_number p name)
  layer_quiet n ih e Expr-F.Src d lt = quiet_get (slot_of names (codes "src")) (info_number p (codes "src"))
  layer_quiet n ih e (Expr-F.One a) d lt =
      quiet-append (expr_code p names a) (op.One ∷ []) (ih a (omega (arith, size-is e (Expr-F.One a) d)))
      (record { numbered = λ r. (tt, tt); empty = refl })
  layer_quiet n ih e (Expr-F.Not a) d lt =
      quiet-append (expr_code p names a) (op.Not ∷ []) (ih a (omega (arith, size-is e (Expr-F.Not a) d)))
      (record { numbered = λ r. (tt, tt); empty = refl })
  layer_quiet n ih e (Expr-F.Count a) d lt =
      quiet-append (expr_code p names a) (op.Count ∷ []) (ih a (omega (arith, size-is e (Expr-F.Count a) d)))
      (record { numbered = λ r. (tt, tt); empty = refl })
  layer_quiet n ih e (Expr-F.Two o a b) d lt =
      quiet-append (expr_code p names a) (expr_code p names b ++ op.Two o ∷ [])
      (ih a (omega (arith, size-is e (Expr-F.Two o a b) d)))
      (quiet-append (expr_code p names b) (op.Two o ∷ []) (ih b (omega (arith, size-is e (Expr-F.Two o a b) d)))
      (record { numbered = λ r. (tt, tt); empty = refl }))
  layer_quiet n ih e _ d lt = record { numbered = λ r. (tt, tt); empty = refl }

  below_quiet : (n : ℕ) (e : Expr) → size e < n → Quiet (expr_code p names e)
  below_quiet zero e lt = absurd (omega arith)
  below_quiet (suc n) e lt =
      subst Quiet (sym (expr_code-is p names e)) (layer_quiet n (below_quiet n) e (out-Expr e) refl lt)

  expr_quiet : (e : Expr) → Quiet (expr_code p names e)
  expr_quiet e = below_quiet (suc (size e)) e (omega arith)

  all_quiet : (es : List Expr) → Quiet (all_code p names es)
  all_quiet [] = record { numbered = λ r. tt; empty = refl }
  all_quiet (e ∷ es) = quiet-append (expr_code p names e) (all_code p names es) (expr_quiet e) (all_quiet es)

abbrev pub Numbers : Piece → Type 0
Numbers c = (at r h : ℕ) → NumberedFrom r (c at r h)

module _ (p : Protocol) (names : List Name) where
  first_numbers : (s : Stmt) (stmts : List Stmt) (l : Layer) → what_of s ≡ l → Numbers (layer_code p names l) →
      Numbers (code_of p names stmts) → Numbers (code_of p names (s ∷ stmts))
  first_numbers s stmts l d x y at r h =
      let one : Numbers (stmt_code p names s) = subst Numbers (sym (by_layer p names s l d)) x in
      let c = stmt_code p names s at r h in
      numbered-append c (code_of p names stmts (at + length c) (r + rests_in c) (h + loops_in c)) r (one at r h)
      (y (at + length c) (r + rests_in c) (h + loops_in c))

  plain_numbers : (l : Layer) (o : OpCode) → plain_op l ≡ Some o → Numbers (layer_code p names l)
  unfolding layer_code
  plain_numbers (Do-F.SetTag tag) o e at r h = (tt, tt)
  plain_numbers Do-F.Install o e at r h = (tt, tt)
  plain_numbers Do-F.Enqueue o e at r h = (tt, tt)
  plain_numbers Do-F.WakeUp o e at r h = (tt, tt)
  plain_numbers (Do-F.Assign name x) o e at r h = cc
  plain_numbers (Do-F.If x first second) o e at r h = cc
  plain_numbers (Do-F.Send to name args) o e at r h = cc
  plain_numbers (Do-F.SendAll to name args) o e at r h = cc
  plain_numbers (Do-F.SetState name args) o e at r h = cc
  plain_numbers (Do-F.Suspend label name args passed) o e at r h = cc
  plain_numbers (Do-F.Resume name) o e at r h = cc
  plain_numbers (Do-F.ForEach name x body) o e at r h = cc
  plain_numbers (Do-F.Each name set body) o e at r h = cc
  plain_numbers (Do-F.Error name) o e at r h = cc

  pub numbers : {stmts : List Stmt} → Fine p names stmts → Numbers (code_of p names stmts)
  unfolding layer_code
  numbers fine.none = λ at r h. tt
  numbers (fine.plain {s = s} {rest = stmts} {o = o} e x) = first_numbers s stmts (what_of s) refl
      (plain_numbers (what_of s) o e) (numbers x)
  numbers (fine.assigns {s = s} {rest = stmts} {name = name} {e = e} d put x) =
      first_numbers s stmts _ d (λ at r h. quiet_before (expr_code p names e) _ r (expr_quiet p names e)
      ((quiet_put (slot_of names name) (info_number p name)).numbered r)) (numbers x)
  numbers (fine.tests {s = s} {rest = stmts} {first = first} {e = e} d x y) =
      first_numbers s stmts _ d (λ at r h.
      let t = expr_code p names e in
      quiet_before t _ r (expr_quiet p names e) (tt, numbers x (at + length t + 1) r h)) (numbers y)
  numbers (fine.branches {s = s} {rest = stmts} {first = first} {second = second} {e = e} d x y z) =
      first_numbers s stmts _ d (λ at r h.
      let t = expr_code p names e in
      let a = code_of p names first (at + length t + 1) r h in
      quiet_before t _ r (expr_quiet p names e) (
        tt,
        numbered-append a _ r (numbers x (at + length t + 1) r h)
            (tt, numbers y (at + length t + 1 + length a + 1) (r + rests_in a) (h + loops_in a)),
      )) (numbers z)
  numbers (fine.sends {s = s} {rest = stmts} {to = to} {name = name} {args = args} d c x) =
      first_numbers s stmts _ d (λ at r h. quiet_before (expr_code p names to) _ r (expr_quiet p names to)
      (quiet_before (all_code p names args) _ r (all_quiet p names args) (tt, tt))) (numbers x)
  numbers (fine.sends_all {s = s} {rest = stmts} {to = to} {name = name} {args = args} d c x) =
      first_numbers s stmts _ d (λ at r h. quiet_before (expr_code p names to) _ r (expr_quiet p names to)
      (quiet_before (all_code p names args) _ r (all_quiet p names args) (tt, tt))) (numbers x)
  numbers (fine.moves {s = s} {rest = stmts} {name = name} {args = args} d c x) =
      first_numbers s stmts _ d (λ at r h. quiet_before (all_code p names args) _ r (all_quiet p names args) (tt, tt)) (numbers x)
  numbers (fine.suspends {s = s} {rest = stmts} {name = name} {args = args} d c x) =
      first_numbers s stmts _ d (λ at r h. quiet_before (all_code p names args) _ r (all_quiet p names args) (refl, tt))
      (numbers x)
  numbers (fine.loops {s = s} {rest = stmts} {body = body} {x = x} {e = e} d a y z) =
      first_numbers s stmts _ d (λ at r h.
      let t = expr_code p names e in
      let b = code_of p names body (at + length t + 1 + 1) r (h + 1) in
      quiet_before t _ r (expr_quiet p names e)
      (tt, (tt, numbered-append b _ r (numbers y (at + length t + 1 + 1) r (h + 1)) (tt, tt)))) (numbers z)
  numbers (fine.resumes {s = s} {rest = stmts} d x) = first_numbers s stmts _ d (λ at r h. (tt, tt)) (numbers x)
  numbers (fine.fails {s = s} {rest = stmts} d x) = first_numbers s stmts _ d (λ at r h. (tt, tt)) (numbers x)
