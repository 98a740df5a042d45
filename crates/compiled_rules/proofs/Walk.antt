-- What a rule asks of compiled statements, wherever their code stands.
use Rattle.std.proofs.Common.{◌≡◌, ◌∙◌, ℕ, zero, suc, ◌+◌, ◌<◌, ◌≤◌, true, List, [], ◌∷◌, ◌++◌, length, length-append}
use Rattle.std.proofs.Common.{append_assoc, Option, Some, None, refl, ap, sym, subst, arith}
use Rattle.std.specs.Prelude.{codes, unwrap_or}
use Rattle.std.proofs.lemmas.Bool.{and_parts}
use Rattle.tw_base.specs.Lists.{Each}
use Rattle.tw_base.specs.declared.name.Name.{Name}
use Rattle.teapot_tree.specs.declared.expr.Expr.{Expr, out-Expr}
use Rattle.teapot_tree.specs.declared.expr.Expr.TheOpen.{Expr-F}
use Rattle.teapot_tree.specs.declared.protocol.Handler.{Handler}
use Rattle.teapot_tree.specs.declared.protocol.Protocol.{Protocol}
use Rattle.teapot_tree.specs.declared.protocol.State.{State}
use Rattle.teapot_tree.specs.declared.stmt.Do.{out-roll-Do}
use Rattle.teapot_tree.specs.declared.stmt.Do.TheOpen.{Do-F}
use Rattle.teapot_tree.specs.declared.stmt.Stmt.{Stmt}
use Rattle.teapot_tree.specs.Bodies.{Simple, assign, send, send_all, set_tag, set_state, suspend, resume, install, enqueue}
use Rattle.teapot_tree.specs.Bodies.{wake_up, error, Body, done, plain, branch, branches, loop, each, do_of, stmt, tree_of}
use Rattle.teapot_tree.specs.Parts.{depth, eaches, exprs_in, simple_exprs}
use Rattle.teapot_tree.specs.Paths.{does, repeats, tests}
use Rattle.teapot_tree.specs.Scopes.{message_number, state_number}
use Rattle.teapot_meaning.specs.Fits.{names_in}
use Rattle.teapot_meaning.specs.Layers.{Layer}
use Rattle.teapot_meaning.specs.Names.{declared, error_number, info_number}
use Rattle.teapot_meaning.proofs.Found.{each_left, each_right}
use Rattle.teapot_meaning.proofs.Sound.{Keeps, are_sound, keeps, scope_of, unpacked}
use Rattle.handler_code.specs.declared.code.OpCode.{OpCode}
use Rattle.handler_code.specs.declared.code.OpCode.TheVariants as op
use Rattle.handler_code.specs.Live.{HasOp}
use Rattle.compiled_meaning.specs.Compiled.{Piece, all_code, code_of, expr_code, loops_in, op_list, rests_in, stmt_code}
use Rattle.compiled_meaning.specs.Follows.{Evaluates, EvaluatesAll, get_op, put_op, slot_of}
use Rattle.compiled_meaning.proofs.Accepted.{first_keeps, local_has, put_has, simple_keeps}
use Rattle.compiled_meaning.proofs.Handlers.{append-nil}
use Rattle.compiled_meaning.proofs.Placed.{all_placed, by_layer, expr_code-is, expr_placed, layer_code, layer_expr}
use Rattle.compiled_meaning.proofs.Placed.{loops_in-append, size, size-is}
use Rattle.compiled_meaning.proofs.Places.{HasAt, has_back, has_front}

-- ---- expressions have no loops

flat-append : (a b : List OpCode) → loops_in a ≡ 0 → loops_in b ≡ 0 → loops_in (a ++ b) ≡ 0
flat-append a b e f = omega (arith, loops_in-append a b)

flat_get : (i j : Option ℕ) → loops_in (get_op i j ∷ []) ≡ 0
flat_get (Some k) j = refl
flat_get None (Some k) = refl
flat_get None None = refl

flat_put : (i j : Option ℕ) → loops_in (op_list (put_op i j)) ≡ 0
flat_put (Some k) j = refl
flat_put None (Some k) = refl
flat_put None None = refl

module _ (p : Protocol) (names : List Name) where
  layer_flat : (n : ℕ) → ((e : Expr) → size e < n → loops_in (expr_code p names e) ≡ 0) → (e : Expr) (l : Expr-F Expr) →
      out-Expr e ≡ l → size e < suc n → loops_in (layer_expr p names l) ≡ 0
  unfolding layer_expr
  layer_flat n ih e (Expr-F.Var name) d lt = flat_get (slot_of names name) (info_number p name)
  layer_flat n ih e Expr-F.Src d lt = flat_get (slot_of names (codes "src")) (info_number p (codes "src"))
  layer_flat n ih e (Expr-F.One a) d lt =
      flat-append (expr_code p names a) (op.One ∷ []) (ih a (omega (arith, size-is e (Expr-F.One a) d))) refl
  layer_flat n ih e (Expr-F.Not a) d lt =
      flat-append (expr_code p names a) (op.Not ∷ []) (ih a (omega (arith, size-is e (Expr-F.Not a) d))) refl
  layer_flat n ih e (Expr-F.Count a) d lt =
      flat-append (expr_code p names a) (op.Count ∷ []) (ih a (omega (arith, size-is e (Expr-F.Count a) d))) refl
  layer_flat n ih e (Expr-F.Two o a b) d lt =
      flat-append (expr_code p names a) (expr_code p names b ++ op.Two o ∷ [])
      (ih a (omega (arith, size-is e (Expr-F.Two o a b) d)))
      (flat-append (expr_code p names b) (op.Two o ∷ []) (ih b (omega (arith, size-is e (Expr-F.Two o a b) d))) refl)
  layer_flat n ih e _ d lt = refl

  below_flat : (n : ℕ) (e : Expr) → size e < n → loops_in (expr_code p names e) ≡ 0
  below_flat zero e lt = absurd (omega arith)
  below_flat (suc n) e lt =
      subst (λ c. loops_in c ≡ 0) (sym (expr_code-is p names e)) (layer_flat n (below_flat n) e (out-Expr e) refl lt)

  pub expr_flat : (e : Expr) → loops_in (expr_code p names e) ≡ 0
  expr_flat e = below_flat (suc (size e)) e (omega arith)

  pub all_flat : (es : List Expr) → loops_in (all_code p names es) ≡ 0
  all_flat [] = refl
  all_flat (e ∷ es) = flat-append (expr_code p names e) (all_code p names es) (expr_flat e) (all_flat es)

-- ---- statements that hold no other: operands and an op

abbrev pub last_op : Protocol → List Name → Simple → ℕ → Option OpCode
last_op p names (assign n e) r = put_op (slot_of names n) (info_number p n)
last_op p names (send e n xs) r = Some (op.Send (declared (message_number p n)))
last_op p names (send_all e n xs) r = Some (op.SendAll (declared (message_number p n)))
last_op p names (set_tag tag) r = Some (op.Tag tag)
last_op p names (set_state n xs) r = Some (op.Goto (declared (state_number p n)))
last_op p names (suspend l n xs q) r = Some (op.Suspend (declared (state_number p n)) r)
last_op p names (resume n) r = Some op.Resume
last_op p names install r = Some op.Install
last_op p names enqueue r = Some op.Enqueue
last_op p names wake_up r = Some op.Wake
last_op p names (error n) r = Some (op.Fail (error_number p n))

abbrev pub simple_code : Protocol → List Name → Simple → ℕ → List OpCode
simple_code p names a r = all_code p names (simple_exprs a) ++ op_list (last_op p names a r)

module _ (p : Protocol) (names : List Name) where
  pub simple-is : (a : Simple) (at r k : ℕ) → layer_code p names (do_of a) at r k ≡ simple_code p names a r
  unfolding layer_code
  simple-is (assign n e) at r k = ap (λ c. c ++ op_list (put_op (slot_of names n) (info_number p n)))
      (sym (append-nil (expr_code p names e)))
  simple-is (send e n xs) at r k = sym (append_assoc (expr_code p names e) (all_code p names xs) _)
  simple-is (send_all e n xs) at r k = sym (append_assoc (expr_code p names e) (all_code p names xs) _)
  simple-is (set_tag tag) at r k = refl
  simple-is (set_state n xs) at r k = refl
  simple-is (suspend l n xs q) at r k = refl
  simple-is (resume n) at r k = refl
  simple-is install at r k = refl
  simple-is enqueue at r k = refl
  simple-is wake_up at r k = refl
  simple-is (error n) at r k = refl

  pub simple_flat : (a : Simple) (r : ℕ) → loops_in (op_list (last_op p names a r)) ≡ 0
  simple_flat (assign n e) r = flat_put (slot_of names n) (info_number p n)
  simple_flat (send e n xs) r = refl
  simple_flat (send_all e n xs) r = refl
  simple_flat (set_tag tag) r = refl
  simple_flat (set_state n xs) r = refl
  simple_flat (suspend l n xs q) r = refl
  simple_flat (resume n) r = refl
  simple_flat install r = refl
  simple_flat enqueue r = refl
  simple_flat wake_up r = refl
  simple_flat (error n) r = refl

has_op : (p : Protocol) (t : State) (h : Handler) (a : Simple) (r : ℕ) → Keeps (scope_of p t h) (does a) →
    (o : OpCode) × (last_op p (names_in t h) a r ≡ Some o)
has_op p t h (assign n e) r k = put_has p t h n k.declared
has_op p t h (send e n xs) r k = (op.Send (declared (message_number p n)), refl)
has_op p t h (send_all e n xs) r k = (op.SendAll (declared (message_number p n)), refl)
has_op p t h (set_tag tag) r k = (op.Tag tag, refl)
has_op p t h (set_state n xs) r k = (op.Goto (declared (state_number p n)), refl)
has_op p t h (suspend l n xs q) r k = (op.Suspend (declared (state_number p n)) r, refl)
has_op p t h (resume n) r k = (op.Resume, refl)
has_op p t h install r k = (op.Install, refl)
has_op p t h enqueue r k = (op.Enqueue, refl)
has_op p t h wake_up r k = (op.Wake, refl)
has_op p t h (error n) r k = (op.Fail (error_number p n), refl)

-- ---- what holds of code from one place up to another, whose loops have the slots from one up to another

abbrev pub Shallow : Expr → Type 0
Shallow e = depth e ≤ 16

-- it holds of each statement, if it holds of the statements in it
pub record Closed (p : Protocol) (t : State) (h : Handler) (ops : List OpCode) (Q : ℕ → ℕ → ℕ → ℕ → Type 0) : Type 0 where
  pub empty : (at k : ℕ) → Q at at k k
  pub joined : (lo mid hi k i j : ℕ) → Q lo mid k i → Q mid hi i j → Q lo hi k j
  pub simple :
      (a : Simple) (o : OpCode) (at last r k : ℕ) →
      Keeps (scope_of p t h) (does a) →
      Each Shallow (simple_exprs a) →
      last_op p (names_in t h) a r ≡ Some o →
      EvaluatesAll p (names_in t h) ops at (simple_exprs a) last →
      HasOp ops last o →
      Q at (last + 1) k k
  pub tested :
      (e : Expr) (at after to k i : ℕ) →
      Keeps (scope_of p t h) (tests e) →
      Shallow e →
      Evaluates p (names_in t h) ops at e after →
      HasOp ops after (op.JumpIfNot to) →
      Q (after + 1) to k i →
      Q at to k i
  pub branched :
      (e : Expr) (at after mid to k i j : ℕ) →
      Keeps (scope_of p t h) (tests e) →
      Shallow e →
      Evaluates p (names_in t h) ops at e after →
      HasOp ops after (op.JumpIfNot (mid + 1)) →
      Q (after + 1) mid k i →
      HasOp ops mid (op.Jump to) →
      Q (mid + 1) to i j →
      Q at to k j
  pub looped :
      (v : Name) (e : Expr) (s at after end k i : ℕ) →
      Keeps (scope_of p t h) (repeats v e) →
      Shallow e →
      slot_of (names_in t h) v ≡ Some s →
      Evaluates p (names_in t h) ops at e after →
      HasOp ops after (op.Put k) →
      HasOp ops (after + 1) (op.EachNext s k (end + 1)) →
      Q (after + 1 + 1) end (k + 1) i →
      HasOp ops end (op.JumpBack (after + 1)) →
      Q at (end + 1) k i

module _ (p : Protocol) (t : State) (h : Handler) (ops : List OpCode) (Q : ℕ → ℕ → ℕ → ℕ → Type 0) (q : Closed p t h ops Q) where
  abbrev names : List Name
  names = names_in t h

  abbrev Goes : Piece → Type 0
  Goes c = (at r k : ℕ) → HasAt ops at (c at r k) → Q at (at + length (c at r k)) k (k + loops_in (c at r k))

  -- at places that are the same
  moved : (at m n k i j : ℕ) → m ≡ n → i ≡ j → Q at m k i → Q at n k j
  moved at m n k i j e f x = subst (λ z. Q at n k z) f (subst (λ z. Q at z k i) e x)

  first_goes : (line : ℕ) (l : Layer) (stmts : List Stmt) → Goes (layer_code p names l) → Goes (code_of p names stmts) →
      Goes (code_of p names (stmt line l ∷ stmts))
  first_goes line l stmts x y at r k has =
      let s = stmt line l in
      let one : Goes (stmt_code p names s) = subst Goes (sym (by_layer p names s l (out-roll-Do l))) x in
      let c = stmt_code p names s at r k in
      let m = code_of p names stmts (at + length c) (r + rests_in c) (k + loops_in c) in
      let place : at + length c + length m ≡ at + length (c ++ m) = omega (arith, length-append c m) in
      let count : k + loops_in c + loops_in m ≡ k + loops_in (c ++ m) = omega (arith, loops_in-append c m) in
      let front = one at r k (has_front ops at c m has) in
      let back = y (at + length c) (r + rests_in c) (k + loops_in c) (has_back ops at c m has) in
      moved at _ _ k _ _ place count (q.joined at (at + length c) (at + length c + length m) k (k + loops_in c)
      (k + loops_in c + loops_in m) front back)

  simple_goes : (a : Simple) → Keeps (scope_of p t h) (does a) → Each Shallow (simple_exprs a) →
      Goes (layer_code p names (do_of a))
  simple_goes a keeps shallow at r k =
      let f = has_op p t h a r keeps in
      let c = all_code p names (simple_exprs a) in
      let last = f.0 ∷ [] in
      let is : layer_code p names (do_of a) at r k ≡ c ++ last = simple-is p names a at r k ∙ ap (λ o. c ++ op_list o) f.1 in
      let none : loops_in last ≡ 0 = sym (ap (λ o. loops_in (op_list o)) f.1) ∙ simple_flat p names a r in
      let place : at + length c + 1 ≡ at + length (c ++ last) = omega (arith, length-append c last) in
      let count : k ≡ k + loops_in (c ++ last) = omega (arith, loops_in-append c last, all_flat p names (simple_exprs a), none) in
      let go : HasAt ops at (c ++ last) → Q at (at + length (c ++ last)) k (k + loops_in (c ++ last)) =
      λ has. moved at _ _ k _ _ place count (q.simple a f.0 at (at + length c) r k keeps shallow f.1
      (all_placed p names ops (simple_exprs a) at (has_front ops at c last has)) (has_back ops at c last has).0) in
      subst (λ z. HasAt ops at z → Q at (at + length z) k (k + loops_in z)) (sym is) go

  then_goes : (e : Expr) (first : List Stmt) → Keeps (scope_of p t h) (tests e) → Shallow e → Goes (code_of p names first) →
      Goes (layer_code p names (Do-F.If e first None))
  unfolding layer_code
  then_goes e first keeps shallow x at r k has =
      let c = expr_code p names e in
      let a = code_of p names first (at + length c + 1) r k in
      let to = at + length c + 1 + length a in
      let rest = op.JumpIfNot to ∷ a in
      let back = has_back ops at c rest has in
      let place : to ≡ at + length (c ++ rest) = omega (arith, length-append c rest) in
      let count : k + loops_in a ≡ k + loops_in (c ++ rest) = omega (arith, loops_in-append c rest, expr_flat p names e) in
      moved at _ _ k _ _ place count (q.tested e at (at + length c) to k (k + loops_in a) keeps shallow
      (expr_placed p names ops e at (has_front ops at c rest has)) back.0 (x (at + length c + 1) r k back.1))

  else_goes : (e : Expr) (first second : List Stmt) → Keeps (scope_of p t h) (tests e) → Shallow e →
      Goes (code_of p names first) → Goes (code_of p names second) → Goes (layer_code p names (Do-F.If e first (Some second)))
  unfolding layer_code
  else_goes e first second keeps shallow x y at r k has =
      let c = expr_code p names e in
      let a = code_of p names first (at + length c + 1) r k in
      let mid = at + length c + 1 + length a in
      let b = code_of p names second (mid + 1) (r + rests_in a) (k + loops_in a) in
      let to = mid + 1 + length b in
      let jump = op.Jump to ∷ b in
      let rest = op.JumpIfNot (mid + 1) ∷ (a ++ jump) in
      let back = has_back ops at c rest has in
      let after = has_back ops (at + length c + 1) a jump back.1 in
      let place : to ≡ at + length (c ++ rest) = omega (arith, length-append c rest, length-append a jump) in
      let count : k + loops_in a + loops_in b ≡ k + loops_in (c ++ rest) =
      omega (arith, loops_in-append c rest, loops_in-append a jump, expr_flat p names e) in
      moved at _ _ k _ _ place count (q.branched e at (at + length c) mid to k (k + loops_in a)
      (k + loops_in a + loops_in b) keeps shallow (expr_placed p names ops e at (has_front ops at c rest has)) back.0
      (x (at + length c + 1) r k (has_front ops (at + length c + 1) a jump back.1)) after.0
      (y (mid + 1) (r + rests_in a) (k + loops_in a) after.1))

  loop_goes : (v : Name) (e : Expr) (body : List Stmt) (s : ℕ) → slot_of names v ≡ Some s →
      Keeps (scope_of p t h) (repeats v e) → Shallow e → Goes (code_of p names body) →
      Goes (layer_code p names (Do-F.ForEach v e body))
  unfolding layer_code
  loop_goes v e body s is keeps shallow x at r k has =
      let c = expr_code p names e in
      let start = at + length c + 1 in
      let b = code_of p names body (start + 1) r (k + 1) in
      let end = start + 1 + length b in
      let last = op.JumpBack start ∷ [] in
      let slot = unwrap_or (slot_of names v) 0 in
      let rest = op.Put k ∷ op.EachNext slot k (end + 1) ∷ (b ++ last) in
      let back = has_back ops at c rest has in
      let next : HasOp ops start (op.EachNext s k (end + 1)) =
      subst (λ o. HasOp ops start (op.EachNext (unwrap_or o 0) k (end + 1))) is back.1.0 in
      let place : end + 1 ≡ at + length (c ++ rest) = omega (arith, length-append c rest, length-append b last) in
      let count : k + 1 + loops_in b ≡ k + loops_in (c ++ rest) =
      omega (arith, loops_in-append c rest, loops_in-append b last, expr_flat p names e) in
      moved at _ _ k _ _ place count (q.looped v e s at (at + length c) end k (k + 1 + loops_in b) keeps shallow is
      (expr_placed p names ops e at (has_front ops at c rest has)) back.0 next
      (x (start + 1) r (k + 1) (has_front ops (start + 1) b last back.1.1)) (has_back ops (start + 1) b last back.1.1).0)

  -- of the code of a handler
  pub walk : (b : Body) → eaches b ≡ 0 → are_sound (scope_of p t h) (tree_of b) ≡ true → Each Shallow (exprs_in b) →
      Goes (code_of p names (tree_of b))
  walk done n e f = λ at r k has.
      let place : at ≡ at + 0 = omega arith in
      let count : k ≡ k + 0 = omega arith in
      moved at _ _ k _ _ place count (q.empty at k)
  walk (plain line a b) n e f =
      let parts = first_keeps p t h line (do_of a) (tree_of b) e in
      first_goes line (do_of a) (tree_of b) (simple_goes a (simple_keeps p t h a parts.0)
      (each_left Shallow (simple_exprs a) (exprs_in b) f))
      (walk b n parts.1 (each_right Shallow (simple_exprs a) (exprs_in b) f))
  walk (branch line x u b) n e f =
      let l : Layer = Do-F.If x (tree_of u) None in
      let parts = first_keeps p t h line l (tree_of b) e in
      let inner = and_parts (keeps (scope_of p t h) (tests x)) _ parts.0 in
      let first = and_parts (are_sound (scope_of p t h) (tree_of u)) _ inner.1 in
      first_goes line l (tree_of b) (then_goes x (tree_of u) (unpacked (scope_of p t h) (tests x) inner.0) f.0
      (walk u (omega arith) first.0 (each_left Shallow (exprs_in u) (exprs_in b) f.1)))
      (walk b (omega arith) parts.1 (each_right Shallow (exprs_in u) (exprs_in b) f.1))
  walk (branches line x u w b) n e f =
      let l : Layer = Do-F.If x (tree_of u) (Some (tree_of w)) in
      let parts = first_keeps p t h line l (tree_of b) e in
      let inner = and_parts (keeps (scope_of p t h) (tests x)) _ parts.0 in
      let both = and_parts (are_sound (scope_of p t h) (tree_of u)) _ inner.1 in
      let more = each_right Shallow (exprs_in u) (exprs_in w ++ exprs_in b) f.1 in
      first_goes line l (tree_of b) (else_goes x (tree_of u) (tree_of w) (unpacked (scope_of p t h) (tests x) inner.0) f.0
      (walk u (omega arith) both.0 (each_left Shallow (exprs_in u) (exprs_in w ++ exprs_in b) f.1))
      (walk w (omega arith) both.1 (each_left Shallow (exprs_in w) (exprs_in b) more)))
      (walk b (omega arith) parts.1 (each_right Shallow (exprs_in w) (exprs_in b) more))
  walk (loop line v x u b) n e f =
      let l : Layer = Do-F.ForEach v x (tree_of u) in
      let parts = first_keeps p t h line l (tree_of b) e in
      let inner = and_parts (keeps (scope_of p t h) (repeats v x)) _ parts.0 in
      let kept = unpacked (scope_of p t h) (repeats v x) inner.0 in
      let slot = local_has t h v kept.declared in
      first_goes line l (tree_of b) (loop_goes v x (tree_of u) slot.0 slot.1 kept f.0
      (walk u (omega arith) inner.1 (each_left Shallow (exprs_in u) (exprs_in b) f.1)))
      (walk b (omega arith) parts.1 (each_right Shallow (exprs_in u) (exprs_in b) f.1))
  walk (each line v s u b) n e f = absurd (omega arith)
