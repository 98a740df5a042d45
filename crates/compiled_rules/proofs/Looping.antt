-- Compiled statements have a loop for each ForEach.
use Rattle.std.proofs.Common.{◌≡◌, ◌∙◌, ℕ, ◌+◌, List, [], ◌∷◌, ◌++◌, length, Some, None, refl, ap, sym, subst, arith}
use Rattle.std.specs.Prelude.{unwrap_or}
use Rattle.tw_base.specs.declared.name.Name.{Name}
use Rattle.teapot_tree.specs.declared.protocol.Protocol.{Protocol}
use Rattle.teapot_tree.specs.declared.stmt.Do.{out-roll-Do}
use Rattle.teapot_tree.specs.declared.stmt.Do.TheOpen.{Do-F}
use Rattle.teapot_tree.specs.declared.stmt.Stmt.{Stmt}
use Rattle.teapot_tree.specs.Bodies.{Body, done, plain, branch, branches, loop, each, do_of, stmt, tree_of}
use Rattle.teapot_tree.specs.Parts.{eaches, loops, simple_exprs}
use Rattle.teapot_meaning.specs.Layers.{Layer}
use Rattle.handler_code.specs.declared.code.OpCode.TheVariants as op
use Rattle.compiled_meaning.specs.Compiled.{Piece, all_code, code_of, expr_code, loops_in, op_list, rests_in, stmt_code}
use Rattle.compiled_meaning.specs.Follows.{slot_of}
use Rattle.compiled_meaning.proofs.Placed.{by_layer, layer_code, loops_in-append}
use Rattle.compiled_rules.proofs.Walk.{all_flat, expr_flat, last_op, simple-is, simple_flat}

module _ (p : Protocol) (names : List Name) where
  abbrev Has : ℕ → Piece → Type 0
  Has n c = (at r k : ℕ) → loops_in (c at r k) ≡ n

  first_has : (line : ℕ) (l : Layer) (stmts : List Stmt) (m n : ℕ) → Has m (layer_code p names l) →
      Has n (code_of p names stmts) → Has (m + n) (code_of p names (stmt line l ∷ stmts))
  first_has line l stmts m n x y at r k =
      let s = stmt line l in
      let one : Has m (stmt_code p names s) = subst (Has m) (sym (by_layer p names s l (out-roll-Do l))) x in
      let c = stmt_code p names s at r k in
      let others = code_of p names stmts (at + length c) (r + rests_in c) (k + loops_in c) in
      omega (arith, loops_in-append c others, one at r k, y (at + length c) (r + rests_in c) (k + loops_in c))

  as_many : (m n : ℕ) (c : Piece) → m ≡ n → Has m c → Has n c
  as_many m n c e x = subst (λ z. Has z c) e x

  pub has_loops : (b : Body) → eaches b ≡ 0 → Has (loops b) (code_of p names (tree_of b))
  unfolding layer_code
  has_loops done e = λ at r k. refl
  has_loops (plain line a b) e =
      let one : Has 0 (layer_code p names (do_of a)) = λ at r k. ap loops_in (simple-is p names a at r k)
      ∙ (loops_in-append (all_code p names (simple_exprs a)) (op_list (last_op p names a r))
      ∙ omega (arith, all_flat p names (simple_exprs a), simple_flat p names a r)) in
      as_many _ _ (code_of p names (stmt line (do_of a) ∷ tree_of b)) (omega arith)
      (first_has line (do_of a) (tree_of b) 0 (loops b) one (has_loops b e))
  has_loops (branch line x u b) e =
      let first = has_loops u (omega arith) in
      first_has line (Do-F.If x (tree_of u) None) (tree_of b) (loops u) (loops b) (λ at r k.
      let c = expr_code p names x in
      let a = code_of p names (tree_of u) (at + length c + 1) r k in
      omega (
        arith,
        loops_in-append c (op.JumpIfNot (at + length c + 1 + length a) ∷ a),
        expr_flat p names x,
        first (at + length c + 1) r k,
      )) (has_loops b (omega arith))
  has_loops (branches line x u w b) e =
      let first = has_loops u (omega arith) in
      let second = has_loops w (omega arith) in
      as_many _ _ (code_of p names (stmt line (Do-F.If x (tree_of u) (Some (tree_of w))) ∷ tree_of b)) (omega arith)
      (first_has line (Do-F.If x (tree_of u) (Some (tree_of w))) (tree_of b) (loops u + loops w) (loops b) (λ at r k.
      let c = expr_code p names x in
      let a = code_of p names (tree_of u) (at + length c + 1) r k in
      let mid = at + length c + 1 + length a in
      let d = code_of p names (tree_of w) (mid + 1) (r + rests_in a) (k + loops_in a) in
      let jump = op.Jump (mid + 1 + length d) ∷ d in
      omega (
        arith,
        loops_in-append c (op.JumpIfNot (mid + 1) ∷ (a ++ jump)),
        loops_in-append a jump,
        expr_flat p names x,
        first (at + length c + 1) r k,
        second (mid + 1) (r + rests_in a) (k + loops_in a),
      )) (has_loops b (omega arith)))
  has_loops (loop line v x u b) e =
      let body = has_loops u (omega arith) in
      as_many _ _ (code_of p names (stmt line (Do-F.ForEach v x (tree_of u)) ∷ tree_of b)) (omega arith)
      (first_has line (Do-F.ForEach v x (tree_of u)) (tree_of b) (1 + loops u) (loops b) (λ at r k.
      let c = expr_code p names x in
      let start = at + length c + 1 in
      let d = code_of p names (tree_of u) (start + 1) r (k + 1) in
      let last = op.JumpBack start ∷ [] in
      omega (
        arith,
        loops_in-append c (op.Put k ∷ op.EachNext (unwrap_or (slot_of names v) 0) k (start + 1 + length d + 1) ∷
            (d ++ last)),
        loops_in-append d last,
        expr_flat p names x,
        body (start + 1) r (k + 1),
      )) (has_loops b (omega arith)))
  has_loops (each line v s u b) e = absurd (omega arith)
