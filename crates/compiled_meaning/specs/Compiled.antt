-- The code of statements, by their place and the number of their first rest.
use Rattle.std.specs.Prelude.{ℕ, ◌+◌, true, false, List, [], ◌∷◌, ◌++◌, length, map, Option, Some, None, unwrap_or, codes}
use Rattle.tw_base.specs.NodeSets.{empty}
use Rattle.tw_base.specs.declared.name.Name.{Name}
use Rattle.tw_base.specs.declared.value.Value.TheVariants as v
use Rattle.teapot_tree.specs.declared.expr.Expr.{Expr}
use Rattle.teapot_tree.specs.declared.expr.Expr.TheOpen.{Expr-F}
use Rattle.teapot_tree.specs.declared.expr.Expr.TheFolds.{fold-Expr}
use Rattle.teapot_tree.specs.declared.protocol.Protocol.{Protocol}
use Rattle.teapot_tree.specs.declared.stmt.Do.{Do, fold-Do}
use Rattle.teapot_tree.specs.declared.stmt.Do.TheOpen.{Do-F}
use Rattle.teapot_tree.specs.declared.stmt.Stmt.{Stmt, fold-Stmt}
use Rattle.teapot_meaning.specs.Names.{declared, error_number, info_number}
use Rattle.teapot_tree.specs.Scopes.{message_number, state_number}
use Rattle.handler_code.specs.declared.code.OpCode.{OpCode}
use Rattle.handler_code.specs.declared.code.OpCode.TheVariants as op
use Rattle.compiled_meaning.specs.Follows.{get_op, put_op, slot_of}

-- one level of an expression, with the ops of its parts
abbrev pub expr_step : Protocol → List Name → Expr-F (List OpCode) → List OpCode
expr_step p names (Expr-F.Number n) = op.Const (v.Int n) ∷ []
expr_step p names Expr-F.True = op.Const (v.Bool true) ∷ []
expr_step p names Expr-F.False = op.Const (v.Bool false) ∷ []
expr_step p names Expr-F.Empty = op.Const (v.Set empty) ∷ []
expr_step p names Expr-F.Src = get_op (slot_of names (codes "src")) (info_number p (codes "src")) ∷ []
expr_step p names Expr-F.SelfNode = op.Me ∷ []
expr_step p names Expr-F.Home = op.Home ∷ []
expr_step p names (Expr-F.Var name) = get_op (slot_of names name) (info_number p name) ∷ []
expr_step p names (Expr-F.One a) = a ++ op.One ∷ []
expr_step p names (Expr-F.Not a) = a ++ op.Not ∷ []
expr_step p names (Expr-F.Count a) = a ++ op.Count ∷ []
expr_step p names (Expr-F.Two o a b) = a ++ (b ++ op.Two o ∷ [])

unfoldable pub expr_code : Protocol → List Name → Expr → List OpCode
expr_code p names = fold-Expr (List OpCode) (expr_step p names)

abbrev pub all_code : Protocol → List Name → List Expr → List OpCode
all_code p names [] = []
all_code p names (e ∷ es) = expr_code p names e ++ all_code p names es

-- how many rests the ops have
abbrev pub rests_by : OpCode → ℕ → ℕ
rests_by (op.Suspend s r) n = n + 1
rests_by _ n = n

abbrev pub rests_in : List OpCode → ℕ
rests_in [] = 0
rests_in (o ∷ ops) = rests_by o (rests_in ops)

-- how many loops
abbrev pub loops_by : OpCode → ℕ → ℕ
loops_by (op.EachNext k h to) n = n + 1
loops_by _ n = n

abbrev pub loops_in : List OpCode → ℕ
loops_in [] = 0
loops_in (o ∷ ops) = loops_by o (loops_in ops)

-- ops by their place, by the number of their first rest, and by the slot of their first loop
abbrev pub Piece : Type 0
Piece = ℕ → ℕ → ℕ → List OpCode

abbrev pub in_order : List Piece → Piece
in_order [] at r h = []
in_order (f ∷ fs) at r h =
    f at r h ++ in_order fs (at + length (f at r h)) (r + rests_in (f at r h)) (h + loops_in (f at r h))

abbrev pub op_list : Option OpCode → List OpCode
op_list (Some o) = o ∷ []
op_list None = []

-- a branch after its test, which begins at this place
abbrev pub then_code : List OpCode → Piece → Piece
then_code test first at r h =
    let a = first (at + length test + 1) r h in
    test ++ op.JumpIfNot (at + length test + 1 + length a) ∷ a

abbrev pub else_code : List OpCode → Piece → Piece → Piece
else_code test first second at r h =
    let a = first (at + length test + 1) r h in
    let to = at + length test + 1 + length a + 1 in
    let b = second to (r + rests_in a) (h + loops_in a) in
    test ++ op.JumpIfNot to ∷ (a ++ op.Jump (to + length b) ∷ b)

-- a loop after its set
abbrev pub each_code : List OpCode → ℕ → Piece → Piece
each_code test k body at r h =
    let start = at + length test + 1 in
    let b = body (start + 1) r (h + 1) in
    test ++ op.Put h ∷ op.EachNext k h (start + 1 + length b + 1) ∷ (b ++ op.JumpBack start ∷ [])

abbrev pub stmt_step : Protocol → List Name → Do-F Piece Piece → Piece
stmt_step p names (Do-F.Assign name e) at r h =
    expr_code p names e ++ op_list (put_op (slot_of names name) (info_number p name))
stmt_step p names (Do-F.If e first None) at r h = then_code (expr_code p names e) (in_order first) at r h
stmt_step p names (Do-F.If e first (Some second)) at r h =
    else_code (expr_code p names e) (in_order first) (in_order second) at r h
stmt_step p names (Do-F.Send to name args) at r h =
    expr_code p names to ++ (all_code p names args ++ op.Send (declared (message_number p name)) ∷ [])
stmt_step p names (Do-F.SendAll to name args) at r h =
    expr_code p names to ++ (all_code p names args ++ op.SendAll (declared (message_number p name)) ∷ [])
stmt_step p names (Do-F.SetTag tag) at r h = op.Tag tag ∷ []
stmt_step p names (Do-F.SetState name args) at r h =
    all_code p names args ++ op.Goto (declared (state_number p name)) ∷ []
stmt_step p names (Do-F.Suspend label name args passed) at r h =
    all_code p names args ++ op.Suspend (declared (state_number p name)) r ∷ []
stmt_step p names (Do-F.ForEach x e body) at r h =
    each_code (expr_code p names e) (unwrap_or (slot_of names x) 0) (in_order body) at r h
stmt_step p names (Do-F.Each x set body) at r h = []
stmt_step p names (Do-F.Resume name) at r h = op.Resume ∷ []
stmt_step p names Do-F.Install at r h = op.Install ∷ []
stmt_step p names Do-F.Enqueue at r h = op.Enqueue ∷ []
stmt_step p names Do-F.WakeUp at r h = op.Wake ∷ []
stmt_step p names (Do-F.Error name) at r h = op.Fail (error_number p name) ∷ []

-- the code of what a statement does, and of a statement
unfoldable pub do_code : Protocol → List Name → Do → Piece
do_code p names = fold-Do Piece Piece (stmt_step p names) (λ s. s.what)

unfoldable pub stmt_code : Protocol → List Name → Stmt → Piece
stmt_code p names = fold-Stmt Piece Piece (stmt_step p names) (λ s. s.what)

abbrev pub code_of : Protocol → List Name → List Stmt → Piece
code_of p names stmts = in_order (map (stmt_code p names) stmts)
