-- Compiled code follows its statements.
use Rattle.std.proofs.Common.{◌≡◌, ℕ, zero, suc, ◌+◌, ◌<◌, ◌≤◌, List, [], ◌∷◌, ◌++◌, length, Bool, Option, Some, None, refl}
use Rattle.std.proofs.Common.{sym, ap, subst, arith, ◌∙◌, length-append}
use Rattle.std.specs.Prelude.{unwrap_or}
use Rattle.tw_base.specs.NodeSets.{without}
use Rattle.tw_base.specs.declared.name.Name.{Name}
use Rattle.teapot_tree.specs.declared.expr.Expr.{Expr, out-Expr}
use Rattle.teapot_tree.specs.declared.expr.Expr.TheOpen.{Expr-F}
use Rattle.teapot_tree.specs.declared.expr.Expr.TheFolds.{fold-Expr, fold_out-Expr, map-Expr}
use Rattle.teapot_tree.specs.declared.protocol.Protocol.{Protocol}
use Rattle.teapot_tree.specs.declared.stmt.Do.{Do, fold-Do, fold_out-Do, map-Do, out-roll-Do}
use Rattle.teapot_tree.specs.declared.stmt.Do.TheOpen.{Do-F}
use Rattle.teapot_tree.specs.declared.stmt.Stmt.{Stmt, fold_out-Stmt}
use Rattle.teapot_meaning.specs.Layers.{Layer, what_of}
use Rattle.teapot_tree.specs.Scopes.{message_number, state_number}
use Rattle.teapot_meaning.specs.Names.{declared}
use Rattle.teapot_meaning.specs.Depth.{nodes_in}
use Rattle.teapot_meaning.specs.Steps.{each, least_of}
use Rattle.teapot_meaning.proofs.Members.{nodes_rest}
use Rattle.handler_code.specs.declared.code.Code.{Code}
use Rattle.handler_code.specs.declared.code.OpCode.{OpCode}
use Rattle.handler_code.specs.declared.code.OpCode.TheVariants as op
use Rattle.handler_code.specs.Live.{HasOp}
use Rattle.compiled_meaning.specs.Follows.{Evaluates, EvaluatesAll, Follows, Loop, Nested, atom, single, negation, counting}
use Rattle.compiled_meaning.specs.Follows.{pair, none as no_args, more, slot_of}
use Rattle.compiled_meaning.specs.Follows as follows
use Rattle.compiled_meaning.specs.Compiled.{Piece, all_code, code_of, expr_code, expr_step, loops_by, loops_in, op_list}
use Rattle.compiled_meaning.specs.Compiled.{rests_in, stmt_code, stmt_step}
use Rattle.compiled_meaning.proofs.Fine.{Fine}
use Rattle.compiled_meaning.proofs.Fine as fine
use Rattle.compiled_meaning.proofs.Exprs.{nested_more}
use Rattle.compiled_meaning.proofs.Places.{HasAt, RestsFollow, has_back, has_front}

loops_by-add : (o : OpCode) (a b : ℕ) → loops_by o (a + b) ≡ loops_by o a + b
loops_by-add (op.EachNext k h to) a b = omega arith
loops_by-add _ a b = refl

pub loops_in-append : (a b : List OpCode) → loops_in (a ++ b) ≡ loops_in a + loops_in b
loops_in-append [] b = omega arith
loops_in-append (o ∷ a) b = ap (loops_by o) (loops_in-append a b) ∙ loops_by-add o (loops_in a) (loops_in b)

-- the number of parts of an expression
abbrev pub size_step : Expr-F ℕ → ℕ
size_step (Expr-F.One a) = a + 1
size_step (Expr-F.Not a) = a + 1
size_step (Expr-F.Count a) = a + 1
size_step (Expr-F.Two o a b) = a + b + 1
size_step _ = 0

unfoldable pub size : Expr → ℕ
size = fold-Expr ℕ size_step

pub size-is : (e : Expr) (l : Expr-F Expr) → out-Expr e ≡ l → size e ≡ size_step (map-Expr Expr ℕ size l)
unfolding size
size-is e l d = fold_out-Expr ℕ size_step e ∙ ap (λ x. size_step (map-Expr Expr ℕ size x)) d

module _ (p : Protocol) (names : List Name) where
  unfoldable pub layer_expr : Expr-F Expr → List OpCode
  layer_expr l = expr_step p names (map-Expr Expr (List OpCode) (expr_code p names) l)

  pub expr_code-is : (e : Expr) → expr_code p names e ≡ layer_expr (out-Expr e)
  unfolding expr_code layer_expr
  expr_code-is e = fold_out-Expr (List OpCode) (expr_step p names) e

  -- an expression that is smaller than this
  Placed : List OpCode → ℕ → Type 0
  Placed ops n = (e : Expr) → size e < n → (at : ℕ) → HasAt ops at (expr_code p names e) →
      Evaluates p names ops at e (at + length (expr_code p names e))

  -- an op behind the code of its operand
  unary_placed : (ops : List OpCode) (n : ℕ) → Placed ops n → (e a : Expr) (o : OpCode) → size a < n → (at : ℕ) →
      HasAt ops at (expr_code p names a ++ o ∷ []) → ((after : ℕ) → Evaluates p names ops at a after → HasOp ops after o →
      Evaluates p names ops at e (after + 1)) → Evaluates p names ops at e (at + length (expr_code p names a ++ o ∷ []))
  unfolding Placed
  unary_placed ops n ih e a o small at h made =
      let c = expr_code p names a in
      let place : at + length c + 1 ≡ at + length (c ++ o ∷ []) = omega (arith, length-append c (o ∷ [])) in
      subst (Evaluates p names ops at e) place (made (at + length c) (ih a small at (has_front ops at c (o ∷ []) h))
      (has_back ops at c (o ∷ []) h).0)

  layer_placed : (ops : List OpCode) (n : ℕ) → Placed ops n → (e : Expr) (l : Expr-F Expr) → out-Expr e ≡ l → size e < suc n →
      (at : ℕ) → HasAt ops at (layer_expr l) → Evaluates p names ops at e (at + length (layer_expr l))
  unfolding layer_expr Placed
  layer_placed ops n ih e (Expr-F.Number k) d lt at h = atom (ap (follows.atom_op p names) d) h.0
  layer_placed ops n ih e Expr-F.True d lt at h = atom (ap (follows.atom_op p names) d) h.0
  layer_placed ops n ih e Expr-F.False d lt at h = atom (ap (follows.atom_op p names) d) h.0
  layer_placed ops n ih e Expr-F.Empty d lt at h = atom (ap (follows.atom_op p names) d) h.0
  layer_placed ops n ih e Expr-F.Src d lt at h = atom (ap (follows.atom_op p names) d) h.0
  layer_placed ops n ih e Expr-F.SelfNode d lt at h = atom (ap (follows.atom_op p names) d) h.0
  layer_placed ops n ih e Expr-F.Home d lt at h = atom (ap (follows.atom_op p names) d) h.0
  layer_placed ops n ih e (Expr-F.Var name) d lt at h = atom (ap (follows.atom_op p names) d) h.0
  layer_placed ops n ih e (Expr-F.One a) d lt at h =
      unary_placed ops n ih e a op.One (omega (arith, size-is e (Expr-F.One a) d)) at h (λ after x y. single d x y)
  layer_placed ops n ih e (Expr-F.Not a) d lt at h =
      unary_placed ops n ih e a op.Not (omega (arith, size-is e (Expr-F.Not a) d)) at h (λ after x y. negation d x y)
  layer_placed ops n ih e (Expr-F.Count a) d lt at h =
      unary_placed ops n ih e a op.Count (omega (arith, size-is e (Expr-F.Count a) d)) at h (λ after x y. counting d x y)
  layer_placed ops n ih e (Expr-F.Two o a b) d lt at h =
      let ca = expr_code p names a in
      let cb = expr_code p names b in
      let last = op.Two o ∷ [] in
      let place : at + length ca + length cb + 1 ≡ at + length (ca ++ (cb ++ last)) =
      omega (arith, length-append ca (cb ++ last), length-append cb last) in
      let small_a : size a < n = omega (arith, size-is e (Expr-F.Two o a b) d) in
      let small_b : size b < n = omega (arith, size-is e (Expr-F.Two o a b) d) in
      let back = has_back ops at ca (cb ++ last) h in
      subst (Evaluates p names ops at e) place (pair d (ih a small_a at (has_front ops at ca (cb ++ last) h))
      (ih b small_b (at + length ca) (has_front ops (at + length ca) cb last back))
      (has_back ops (at + length ca) cb last back).0)

  below_placed : (ops : List OpCode) (n : ℕ) → Placed ops n
  unfolding Placed
  below_placed ops zero e lt at h = absurd (omega arith)
  below_placed ops (suc n) e lt at h =
      let f : HasAt ops at (layer_expr (out-Expr e)) → Evaluates p names ops at e (at + length (layer_expr (out-Expr e))) =
      layer_placed ops n (below_placed ops n) e (out-Expr e) refl lt at in
      subst (λ c. HasAt ops at c → Evaluates p names ops at e (at + length c)) (sym (expr_code-is e)) f h

  pub expr_placed : (ops : List OpCode) (e : Expr) (at : ℕ) → HasAt ops at (expr_code p names e) →
      Evaluates p names ops at e (at + length (expr_code p names e))
  unfolding Placed
  expr_placed ops e at h = below_placed ops (suc (size e)) e (omega arith) at h

  pub all_placed : (ops : List OpCode) (es : List Expr) (at : ℕ) → HasAt ops at (all_code p names es) →
      EvaluatesAll p names ops at es (at + length (all_code p names es))
  all_placed ops [] at h = let e : at ≡ at + 0 = omega arith in subst (λ n. EvaluatesAll p names ops at [] n) e no_args
  all_placed ops (e ∷ es) at h =
      let c = expr_code p names e in
      let more_code = all_code p names es in
      let place : at + length c + length more_code ≡ at + length (c ++ more_code) = omega (arith, length-append c more_code) in
      subst (EvaluatesAll p names ops at (e ∷ es)) place (more (expr_placed ops e at (has_front ops at c more_code h))
      (all_placed ops es (at + length c) (has_back ops at c more_code h)))

module _ (p : Protocol) (names : List Name) where
  -- the code of one level of a statement
  unfoldable pub layer_code : Layer → Piece
  layer_code l =
      stmt_step p names (map-Do Do Stmt Piece Piece (fold-Do Piece Piece (stmt_step p names) (λ s. s.what))
      (stmt_code p names) l)

  stmt_code-is : (s : Stmt) → stmt_code p names s ≡ layer_code (what_of s)
  unfolding stmt_code layer_code
  stmt_code-is s = rw fold_out-Stmt (fold_out-Do Piece Piece (stmt_step p names) (λ s. s.what) s.what)

  pub by_layer : (s : Stmt) (l : Layer) → what_of s ≡ l → stmt_code p names s ≡ layer_code l
  by_layer s l d = stmt_code-is s ∙ ap layer_code d

  module _ (code : Code) (width : ℕ) (numbered : RestsFollow code) where
    -- Statements whose code stands at a place lead to those that follow.
    unfoldable pub Leads : List Stmt → Type 0
    Leads stmts = (at r h : ℕ) (tail : List Stmt) (loops : List Loop) → Nested names h loops →
        h + loops_in (code_of p names stmts at r h) ≤ width → HasAt code.ops at (code_of p names stmts at r h) →
        Follows p names width code (at + length (code_of p names stmts at r h)) tail loops →
        Follows p names width code at (stmts ++ tail) loops

    -- the code of one statement leads to what follows it
    One : Stmt → Piece → Type 0
    One s c = (at r h : ℕ) (rest : List Stmt) (loops : List Loop) → Nested names h loops → h + loops_in (c at r h) ≤ width →
        HasAt code.ops at (c at r h) → Follows p names width code (at + length (c at r h)) rest loops →
        Follows p names width code at (s ∷ rest) loops

    first_leads : (s : Stmt) (stmts : List Stmt) (l : Layer) → what_of s ≡ l → One s (layer_code l) → Leads stmts →
        Leads (s ∷ stmts)
    unfolding Leads One
    first_leads s stmts l d one rest at r h tail loops n w has f =
        let c = stmt_code p names s at r h in
        let others = code_of p names stmts (at + length c) (r + rests_in c) (h + loops_in c) in
        let place : at + length (c ++ others) ≡ at + length c + length others = omega (arith, length-append c others) in
        let room : h + loops_in c ≤ width = omega (arith, loops_in-append c others) in
        let room_after : h + loops_in c + loops_in others ≤ width = omega (arith, loops_in-append c others) in
        let up : h ≤ h + loops_in c = omega arith in
        let one_code : One s (stmt_code p names s) = subst (One s) (sym (by_layer s l d)) one in
        one_code at r h (stmts ++ tail) loops n room (has_front code.ops at c others has)
        (rest (at + length c) (r + rests_in c) (h + loops_in c) tail loops
        (nested_more names h (h + loops_in c) loops up n) room_after (has_back code.ops at c others has)
        (subst (λ q. Follows p names width code q tail loops) place f))

    -- a loop whose set has fewer members than this
    loop_follows : (x : Name) (body : List Stmt) (k : ℕ) → slot_of names x ≡ Some k → Leads body →
        (start r h to : ℕ) (rest : List Stmt) (loops : List Loop) → Nested names h loops →
        h + 1 + loops_in (code_of p names body (start + 1) r (h + 1)) ≤ width → HasOp code.ops start (op.EachNext k h to) →
        HasAt code.ops (start + 1) (code_of p names body (start + 1) r (h + 1)) →
        HasOp code.ops (start + 1 + length (code_of p names body (start + 1) r (h + 1))) (op.JumpBack start) →
        Follows p names width code to rest loops → (n : ℕ) (set : List Bool) → length (nodes_in set) < n →
        Follows p names width code start (each x set body ∷ rest) (record { slot = h; set = set } ∷ loops)
    unfolding Leads
    loop_follows x body k a ih start r h to rest loops nest w next has back f zero set lt = absurd (omega arith)
    loop_follows x body k a ih start r h to rest loops nest w next has back f (suc n) set lt =
        by_least (λ set less. loop_follows x body k a ih start r h to rest loops nest w next has back f n set less)
        (least_of set) refl
      where
        by_least : ((set : List Bool) → length (nodes_in set) < n →
            Follows p names width code start (each x set body ∷ rest) (record { slot = h; set = set } ∷ loops)) →
            (o : Option ℕ) → least_of set ≡ o → Follows p names width code start (each x set body ∷ rest)
            (record { slot = h; set = set } ∷ loops)
        by_least again None e = follows.ends_loop (out-roll-Do (Do-F.Each x set body)) e next f
        by_least again (Some m) e =
            let less : length (nodes_in (without set m)) < n = omega (arith, nodes_rest set m e, lt) in
            let up : h < h + 1 = omega arith in
            follows.turns (out-roll-Do (Do-F.Each x set body)) e a next
            (ih (start + 1) r (h + 1) (each x (without set m) body ∷ rest)
            (record { slot = h; set = without set m } ∷ loops) (up, nest) w has
            (follows.jumps_back back next (again (without set m) less)))

    -- each statement by its level
    plain_leads : (s : Stmt) (l : Layer) (o : OpCode) → what_of s ≡ l → follows.plain_op l ≡ Some o → One s (layer_code l)
    unfolding layer_code One
    plain_leads s (Do-F.SetTag tag) o d e at r h rest loops n w has f = follows.plain (ap follows.plain_op d) has.0 f
    plain_leads s Do-F.Install o d e at r h rest loops n w has f = follows.plain (ap follows.plain_op d) has.0 f
    plain_leads s Do-F.Enqueue o d e at r h rest loops n w has f = follows.plain (ap follows.plain_op d) has.0 f
    plain_leads s Do-F.WakeUp o d e at r h rest loops n w has f = follows.plain (ap follows.plain_op d) has.0 f
    plain_leads s (Do-F.Assign name x) o d e at r h rest loops n w has f = cc
    plain_leads s (Do-F.If x first second) o d e at r h rest loops n w has f = cc
    plain_leads s (Do-F.Send to name args) o d e at r h rest loops n w has f = cc
    plain_leads s (Do-F.SendAll to name args) o d e at r h rest loops n w has f = cc
    plain_leads s (Do-F.SetState name args) o d e at r h rest loops n w has f = cc
    plain_leads s (Do-F.Suspend label name args passed) o d e at r h rest loops n w has f = cc
    plain_leads s (Do-F.Resume name) o d e at r h rest loops n w has f = cc
    plain_leads s (Do-F.ForEach x b stmts) o d e at r h rest loops n w has f = cc
    plain_leads s (Do-F.Each x set stmts) o d e at r h rest loops n w has f = cc
    plain_leads s (Do-F.Error name) o d e at r h rest loops n w has f = cc

    -- ops, and one op behind them
    last_place : (at : ℕ) (c : List OpCode) (o : OpCode) → at + length (c ++ o ∷ []) ≡ at + length c + 1
    last_place at c o = omega (arith, length-append c (o ∷ []))

    pub placed : {stmts : List Stmt} → Fine p names stmts → Leads stmts
    unfolding Leads One layer_code
    placed fine.none = λ at r h tail loops n w has f. let e : at + 0 ≡ at =
        omega arith in subst (λ q. Follows p names width code q tail loops) e f
    placed (fine.plain {s = s} {rest = stmts} {o = o} e x) =
        first_leads s stmts (what_of s) refl (plain_leads s (what_of s) o refl e) (placed x)
    placed (fine.assigns {s = s} {rest = stmts} {name = name} {e = e} {o = o} d put x) =
        first_leads s stmts _ d (λ at r h rest loops n w has f.
        let c = expr_code p names e in
        let has' : HasAt code.ops at (c ++ o ∷ []) = subst (λ q. HasAt code.ops at (c ++ op_list q)) put has in
        let f' : Follows p names width code (at + length (c ++ o ∷ [])) rest loops =
        subst (λ q. Follows p names width code (at + length (c ++ op_list q)) rest loops) put f in
        follows.assigns d (expr_placed p names code.ops e at (has_front code.ops at c _ has')) put
        (has_back code.ops at c _ has').0 (subst (λ q. Follows p names width code q rest loops) (last_place at c o) f'))
        (placed x)
    placed (fine.tests {s = s} {rest = stmts} {first = first} {e = e} d x y) =
        first_leads s stmts _ d (λ at r h rest loops n w has f.
        let t = expr_code p names e in
        let a = code_of p names first (at + length t + 1) r h in
        let to = at + length t + 1 + length a in
        let room : h + loops_in a ≤ width = omega (arith, loops_in-append t (op.JumpIfNot to ∷ a)) in
        let back = has_back code.ops at t (op.JumpIfNot to ∷ a) has in
        let place : at + length (t ++ op.JumpIfNot to ∷ a) ≡ to = omega (arith, length-append t (op.JumpIfNot to ∷ a)) in
        let end = subst (λ q. Follows p names width code q rest loops) place f in
        follows.branches d (expr_placed p names code.ops e at (has_front code.ops at t _ has)) back.0
        (placed x (at + length t + 1) r h rest loops n room back.1 end) end) (placed y)
    placed (fine.branches {s = s} {rest = stmts} {first = first} {second = second} {e = e} d x y z) =
        first_leads s stmts _ d (λ at r h rest loops n w has f.
        let t = expr_code p names e in
        let a = code_of p names first (at + length t + 1) r h in
        let to = at + length t + 1 + length a + 1 in
        let b = code_of p names second to (r + rests_in a) (h + loops_in a) in
        let jump = op.Jump (to + length b) ∷ b in
        let both = loops_in-append t (op.JumpIfNot to ∷ (a ++ jump)) in
        let room : h + loops_in a ≤ width = omega (arith, both, loops_in-append a jump) in
        let room_b : h + loops_in a + loops_in b ≤ width = omega (arith, both, loops_in-append a jump) in
        let up : h ≤ h + loops_in a = omega arith in
        let past : at + length t + 1 + length a < to + length b = omega arith in
        let back = has_back code.ops at t (op.JumpIfNot to ∷ (a ++ jump)) has in
        let after = has_back code.ops (at + length t + 1) a jump back.1 in
        let place : at + length (t ++ op.JumpIfNot to ∷ (a ++ jump)) ≡ to + length b =
        omega (arith, length-append t (op.JumpIfNot to ∷ (a ++ jump)), length-append a jump) in
        let end = subst (λ q. Follows p names width code q rest loops) place f in
        follows.branches d (expr_placed p names code.ops e at (has_front code.ops at t _ has)) back.0
        (placed x (at + length t + 1) r h rest loops n room (has_front code.ops (at + length t + 1) a jump back.1)
        (follows.jumps after.0 past end)) (placed y to (r + rests_in a) (h + loops_in a) rest loops
        (nested_more names h (h + loops_in a) loops up n) room_b after.1 end)) (placed z)
    placed (fine.sends {s = s} {rest = stmts} {to = to} {name = name} {args = args} d c x) =
        first_leads s stmts _ d (λ at r h rest loops n w has f.
        let t = expr_code p names to in
        let a = all_code p names args in
        let o = op.Send (declared (message_number p name)) in
        let back = has_back code.ops at t (a ++ o ∷ []) has in
        let place : at + length (t ++ (a ++ o ∷ [])) ≡ at + length t + length a + 1 =
        omega (arith, length-append t (a ++ o ∷ []), length-append a (o ∷ [])) in
        follows.sends d (expr_placed p names code.ops to at (has_front code.ops at t _ has))
        (all_placed p names code.ops args (at + length t) (has_front code.ops (at + length t) a _ back))
        (has_back code.ops (at + length t) a _ back).0 c (subst (λ q. Follows p names width code q rest loops) place f))
        (placed x)
    placed (fine.sends_all {s = s} {rest = stmts} {to = to} {name = name} {args = args} d c x) =
        first_leads s stmts _ d (λ at r h rest loops n w has f.
        let t = expr_code p names to in
        let a = all_code p names args in
        let o = op.SendAll (declared (message_number p name)) in
        let back = has_back code.ops at t (a ++ o ∷ []) has in
        let place : at + length (t ++ (a ++ o ∷ [])) ≡ at + length t + length a + 1 =
        omega (arith, length-append t (a ++ o ∷ []), length-append a (o ∷ [])) in
        follows.sends_all d (expr_placed p names code.ops to at (has_front code.ops at t _ has))
        (all_placed p names code.ops args (at + length t) (has_front code.ops (at + length t) a _ back))
        (has_back code.ops (at + length t) a _ back).0 c (subst (λ q. Follows p names width code q rest loops) place f))
        (placed x)
    placed (fine.moves {s = s} {rest = stmts} {name = name} {args = args} d c x) =
        first_leads s stmts _ d (λ at r h rest loops n w has f.
        let a = all_code p names args in
        let o = op.Goto (declared (state_number p name)) in
        follows.moves d (all_placed p names code.ops args at (has_front code.ops at a _ has))
        (has_back code.ops at a _ has).0 c (subst (λ q. Follows p names width code q rest loops) (last_place at a o) f))
        (placed x)
    placed (fine.suspends {s = s} {rest = stmts} {label = label} {name = name} {passed = passed} {args = args} d c x) =
        first_leads s stmts _ d (λ at r h rest loops n w has f.
        let a = all_code p names args in
        let o = op.Suspend (declared (state_number p name)) r in
        let back = (has_back code.ops at a _ has).0 in
        let saved = numbered (at + length a) (declared (state_number p name)) r back in
        follows.suspends d (all_placed p names code.ops args at (has_front code.ops at a _ has)) back c saved.1 saved.2
        (subst (λ q. Follows p names width code q rest loops) (last_place at a o) f)) (placed x)
    placed (fine.loops {s = s} {rest = stmts} {body = body} {x = x} {e = e} {k = k} d a y z) =
        first_leads s stmts _ d (λ at r h rest loops n w has f.
        let t = expr_code p names e in
        let start = at + length t + 1 in
        let b = code_of p names body (start + 1) r (h + 1) in
        let to = start + 1 + length b + 1 in
        let last = op.JumpBack start ∷ [] in
        let slot = unwrap_or (slot_of names x) 0 in
        let all = loops_in-append t (op.Put h ∷ op.EachNext slot h to ∷ (b ++ last)) in
        let room : h + 1 + loops_in b ≤ width = omega (arith, all, loops_in-append b last) in
        let wide : h < width = omega arith in
        let back = has_back code.ops at t (op.Put h ∷ op.EachNext slot h to ∷ (b ++ last)) has in
        let next : HasOp code.ops start (op.EachNext k h to) =
        subst (λ o. HasOp code.ops start (op.EachNext (unwrap_or o 0) h to)) a back.1.0 in
        let place : at + length (t ++ op.Put h ∷ op.EachNext slot h to ∷ (b ++ last)) ≡ to =
        omega (arith, length-append t (op.Put h ∷ op.EachNext slot h to ∷ (b ++ last)), length-append b last) in
        let end = subst (λ q. Follows p names width code q rest loops) place f in
        follows.begins d (expr_placed p names code.ops e at (has_front code.ops at t _ has)) back.0 wide n
        (λ set. loop_follows x body k a (placed y) start r h to rest loops n room next
        (has_front code.ops (start + 1) b last back.1.1) (has_back code.ops (start + 1) b last back.1.1).0 end
        (suc (length (nodes_in set))) set (omega arith))) (placed z)
    placed (fine.resumes {s = s} {rest = stmts} d x) = first_leads s stmts _ d
        (λ at r h rest loops n w has f. follows.resumes d has.0) (placed x)
    placed (fine.fails {s = s} {rest = stmts} d x) =
        first_leads s stmts _ d (λ at r h rest loops n w has f. follows.fails d has.0) (placed x)
