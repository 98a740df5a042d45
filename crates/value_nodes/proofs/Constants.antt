-- Compiled code has no node among its constants.
use Rattle.std.proofs.Common.{◌≡◌, ℕ, ◌+◌, List, [], ◌∷◌, ◌++◌, length, map, Option, Some, None, sym, subst}
use Rattle.std.specs.Prelude.{codes, unwrap_or}
use Rattle.tw_base.specs.Lists.{Each}
use Rattle.tw_base.specs.declared.name.Name.{Name}
use Rattle.teapot_tree.specs.declared.expr.Expr.{Expr, roll-Expr}
use Rattle.teapot_tree.specs.declared.expr.Expr.TheOpen.{Expr-F}
use Rattle.teapot_tree.specs.declared.expr.Expr.TheFolds.{fold-roll-Expr, ind-Expr, map-Expr}
use Rattle.teapot_tree.specs.declared.protocol.Protocol.{Protocol}
use Rattle.teapot_tree.specs.declared.stmt.Do.{Do, fold-roll-Do, map-Do, roll-Do}
use Rattle.teapot_tree.specs.declared.stmt.Do.TheOpen.{Do-F, Stmt-F}
use Rattle.teapot_tree.specs.declared.stmt.Stmt.{Stmt, fold_out-Stmt, ind-Stmt, map-Stmt, roll-Stmt}
use Rattle.teapot_meaning.specs.Fits.{names_in}
use Rattle.teapot_meaning.specs.Names.{info_number}
use Rattle.handler_code.specs.declared.code.OpCode.{OpCode}
use Rattle.handler_code.specs.declared.code.OpCode.TheVariants as op
use Rattle.compiled_meaning.specs.Compiled.{Piece, all_code, code_of, do_code, each_code, else_code, expr_code, expr_step}
use Rattle.compiled_meaning.specs.Compiled.{in_order, loops_in, op_list, rests_in, stmt_code, stmt_step, then_code}
use Rattle.compiled_meaning.specs.Follows.{get_op, put_op, slot_of}
use Rattle.compiled_meaning.specs.Whole.{Entry, entries_of, entry_code}
use Rattle.value_nodes.specs.Within.{CodeHasNoNodes, IsValueWithin}
use Rattle.value_nodes.proofs.Within.{each_append, each_get, empty_within}

-- the op puts no node of its own on the stack
abbrev NamesNoNode : OpCode → Type 0
NamesNoNode (op.Const x) = IsValueWithin 0 x
NamesNoNode _ = Unit {0}

abbrev Free : List OpCode → Type 0
Free ops = Each NamesNoNode ops

abbrev PieceFree : Piece → Type 0
PieceFree f = (at r h : ℕ) → Free (f at r h)

free_append : (a b : List OpCode) → Free a → Free b → Free (a ++ b)
free_append a b f g = each_append NamesNoNode a b f g

free_get : (i j : Option ℕ) → NamesNoNode (get_op i j)
free_get (Some k) j = tt
free_get None (Some k) = tt
free_get None None = tt

free_put : (i j : Option ℕ) → Free (op_list (put_op i j))
free_put (Some k) j = (tt, tt)
free_put None (Some k) = (tt, tt)
free_put None None = tt

in_order_free : (fs : List Piece) → Each PieceFree fs → PieceFree (in_order fs)
in_order_free [] h at r l = tt
in_order_free (f ∷ fs) h at r l =
    free_append (f at r l) _ (h.0 at r l) (in_order_free fs h.1 (at + length (f at r l)) (r + rests_in (f at r l))
    (l + loops_in (f at r l)))

then_free : (test : List OpCode) (first : Piece) → Free test → PieceFree first → PieceFree (then_code test first)
then_free test first t f at r h = free_append test _ t (tt, f (at + length test + 1) r h)

else_free : (test : List OpCode) (first second : Piece) → Free test → PieceFree first → PieceFree second →
    PieceFree (else_code test first second)
else_free test first second t f g at r h =
    let a = first (at + length test + 1) r h in
    free_append test _ t (
      tt,
      free_append a _ (f (at + length test + 1) r h)
          (tt, g (at + length test + 1 + length a + 1) (r + rests_in a) (h + loops_in a)),
    )

loop_free : (test : List OpCode) (k : ℕ) (body : Piece) → Free test → PieceFree body → PieceFree (each_code test k body)
loop_free test k body t f at r h =
    let b = body (at + length test + 1 + 1) r (h + 1) in
    free_append test _ t
    (tt, (tt, free_append b (op.JumpBack (at + length test + 1) ∷ []) (f (at + length test + 1 + 1) r (h + 1)) (tt, tt)))

module _ (p : Protocol) (names : List Name) where
  -- ---- expressions

  abbrev ExprFree : Expr → Type 0
  ExprFree e = Free (expr_code p names e)

  abbrev ExprPart : Type 0
  ExprPart = (e : Expr) × ExprFree e

  by_expr : (y : Expr-F ExprPart) →
      Free (expr_step p names (map-Expr Expr (List OpCode) (expr_code p names) (map-Expr ExprPart Expr (λ a. a.0) y)))
  by_expr (Expr-F.Number n) = (tt, tt)
  by_expr Expr-F.True = (tt, tt)
  by_expr Expr-F.False = (tt, tt)
  by_expr Expr-F.Empty = (empty_within 0, tt)
  by_expr Expr-F.Src = (free_get (slot_of names (codes "src")) (info_number p (codes "src")), tt)
  by_expr Expr-F.SelfNode = (tt, tt)
  by_expr Expr-F.Home = (tt, tt)
  by_expr (Expr-F.Var name) = (free_get (slot_of names name) (info_number p name), tt)
  by_expr (Expr-F.One a) = free_append (expr_code p names a.0) (op.One ∷ []) a.1 (tt, tt)
  by_expr (Expr-F.Not a) = free_append (expr_code p names a.0) (op.Not ∷ []) a.1 (tt, tt)
  by_expr (Expr-F.Count a) = free_append (expr_code p names a.0) (op.Count ∷ []) a.1 (tt, tt)
  by_expr (Expr-F.Two o a b) =
      free_append (expr_code p names a.0) _ a.1 (free_append (expr_code p names b.0) (op.Two o ∷ []) b.1 (tt, tt))

  expr_roll : (l : Expr-F Expr) → expr_code p names (roll-Expr l)
      ≡ expr_step p names (map-Expr Expr (List OpCode) (expr_code p names) l)
  unfolding expr_code
  expr_roll l = fold-roll-Expr (List OpCode) (expr_step p names) l

  expr_level : (y : Expr-F ExprPart) → ExprFree (roll-Expr (map-Expr ExprPart Expr (λ a. a.0) y))
  expr_level y = subst Free (sym (expr_roll (map-Expr ExprPart Expr (λ a. a.0) y))) (by_expr y)

  expr_free : (e : Expr) → ExprFree e
  expr_free = ind-Expr ExprFree (λ x y is. subst (λ z. ExprFree (roll-Expr z)) is (expr_level y))

  all_free : (es : List Expr) → Free (all_code p names es)
  all_free [] = tt
  all_free (e ∷ es) = free_append (expr_code p names e) (all_code p names es) (expr_free e) (all_free es)

  -- ---- statements

  abbrev DoFree : Do → Type 0
  DoFree d = PieceFree (do_code p names d)

  abbrev StmtFree : Stmt → Type 0
  StmtFree s = PieceFree (stmt_code p names s)

  abbrev DoPart : Type 0
  DoPart = (d : Do) × DoFree d

  abbrev StmtPart : Type 0
  StmtPart = (s : Stmt) × StmtFree s

  abbrev whole_of : Do-F DoPart StmtPart → Do-F Do Stmt
  whole_of = map-Do DoPart StmtPart Do Stmt (λ d. d.0) (λ s. s.0)

  parts_free : (ss : List StmtPart) → Each PieceFree (map (stmt_code p names) (map (λ s. s.0) ss))
  parts_free [] = tt
  parts_free (s ∷ ss) = (s.1, parts_free ss)

  body_free : (ss : List StmtPart) → PieceFree (in_order (map (stmt_code p names) (map (λ s. s.0) ss)))
  body_free ss = in_order_free (map (stmt_code p names) (map (λ s. s.0) ss)) (parts_free ss)

  by_layer : (y : Do-F DoPart StmtPart) →
      PieceFree (stmt_step p names (map-Do Do Stmt Piece Piece (do_code p names) (stmt_code p names) (whole_of y)))
  by_layer (Do-F.Assign name e) at r h = free_append (expr_code p names e) _ (expr_free e)
      (free_put (slot_of names name) (info_number p name))
  by_layer (Do-F.If e xs None) at r h = then_free (expr_code p names e) _ (expr_free e) (body_free xs) at r h
  by_layer (Do-F.If e xs (Some ys)) at r h = else_free (expr_code p names e) _ _ (expr_free e) (body_free xs)
      (body_free ys) at r h
  by_layer (Do-F.Send to name args) at r h =
      free_append (expr_code p names to) _ (expr_free to) (free_append (all_code p names args) _ (all_free args) (tt, tt))
  by_layer (Do-F.SendAll to name args) at r h =
      free_append (expr_code p names to) _ (expr_free to) (free_append (all_code p names args) _ (all_free args) (tt, tt))
  by_layer (Do-F.SetTag tag) at r h = (tt, tt)
  by_layer (Do-F.SetState name args) at r h = free_append (all_code p names args) _ (all_free args) (tt, tt)
  by_layer (Do-F.Suspend label name args passed) at r h = free_append (all_code p names args) _ (all_free args) (tt, tt)
  by_layer (Do-F.Resume name) at r h = (tt, tt)
  by_layer (Do-F.ForEach x e xs) at r h = loop_free (expr_code p names e) (unwrap_or (slot_of names x) 0) _ (expr_free e)
      (body_free xs) at r h
  by_layer (Do-F.Each x set xs) at r h = tt
  by_layer Do-F.Install at r h = (tt, tt)
  by_layer Do-F.Enqueue at r h = (tt, tt)
  by_layer Do-F.WakeUp at r h = (tt, tt)
  by_layer (Do-F.Error name) at r h = (tt, tt)

  do_roll : (l : Do-F Do Stmt) → do_code p names (roll-Do l)
      ≡ stmt_step p names (map-Do Do Stmt Piece Piece (do_code p names) (stmt_code p names) l)
  unfolding do_code stmt_code
  do_roll l = fold-roll-Do Piece Piece (stmt_step p names) (λ s. s.what) l

  stmt_out : (s : Stmt) → stmt_code p names s ≡ do_code p names s.what
  unfolding do_code stmt_code
  stmt_out s = fold_out-Stmt Piece Piece (stmt_step p names) (λ x. x.what) s

  do_level : (y : Do-F DoPart StmtPart) → DoFree (roll-Do (whole_of y))
  do_level y = subst PieceFree (sym (do_roll (whole_of y))) (by_layer y)

  stmt_level : (y : Stmt-F DoPart StmtPart) → StmtFree (roll-Stmt (map-Stmt DoPart StmtPart Do Stmt (λ d. d.0) (λ s. s.0) y))
  stmt_level y = subst PieceFree (sym (stmt_out (roll-Stmt (map-Stmt DoPart StmtPart Do Stmt (λ d. d.0) (λ s. s.0) y)))) y.what.1

  stmt_free : (s : Stmt) → StmtFree s
  stmt_free = ind-Stmt DoFree StmtFree (λ x y is. subst (λ z. DoFree (roll-Do z)) is (do_level y))
      (λ x y is. subst (λ z. StmtFree (roll-Stmt z)) is (stmt_level y))

  stmts_free : (stmts : List Stmt) → Each PieceFree (map (stmt_code p names) stmts)
  stmts_free [] = tt
  stmts_free (s ∷ stmts) = (stmt_free s, stmts_free stmts)

  pub code_free : (stmts : List Stmt) → PieceFree (code_of p names stmts)
  code_free stmts = in_order_free (map (stmt_code p names) stmts) (stmts_free stmts)

-- ---- handlers

entry_free : (p : Protocol) (d : Entry) → PieceFree (entry_code p d)
entry_free p d at r h =
    let names = names_in d.state d.handler in
    free_append (code_of p names d.handler.body at r (length names)) (op.Done ∷ [])
    (code_free p names d.handler.body at r (length names)) (tt, tt)

entries_free : (p : Protocol) (entries : List Entry) → Each PieceFree (map (entry_code p) entries)
entries_free p [] = tt
entries_free p (d ∷ entries) = (entry_free p d, entries_free p entries)

pub code_has_no_nodes : CodeHasNoNodes
code_has_no_nodes p code is at x has =
    let all : Free (in_order (map (entry_code p) (entries_of p)) 0 0 0) =
    in_order_free (map (entry_code p) (entries_of p)) (entries_free p (entries_of p)) 0 0 0 in
    each_get NamesNoNode code.ops at (op.Const x) (subst Free (sym is.ops) all) has
