-- Only a loop begins with an `EachNext`.
use Rattle.std.proofs.Common.{◌≡◌, ◌∙◌, ℕ, List, Option, Some, None, ap}
use Rattle.std.specs.Prelude.{codes}
use Rattle.tw_base.specs.declared.name.Name.{Name}
use Rattle.teapot_tree.specs.declared.expr.Expr.{Expr, out-Expr}
use Rattle.teapot_tree.specs.declared.expr.Expr.TheOpen.{Expr-F}
use Rattle.teapot_tree.specs.declared.protocol.Protocol.{Protocol}
use Rattle.teapot_tree.specs.declared.stmt.Do.TheOpen.{Do-F}
use Rattle.teapot_meaning.specs.Layers.{Layer}
use Rattle.teapot_meaning.specs.Names.{info_number}
use Rattle.handler_code.specs.declared.code.OpCode.{OpCode}
use Rattle.handler_code.specs.declared.code.OpCode.TheVariants as op
use Rattle.handler_code.specs.Live.{HasOp}
use Rattle.compiled_meaning.specs.Follows.{Evaluates, EvaluatesAll, atom, single, negation, counting, pair, none, more, atom_op}
use Rattle.compiled_meaning.specs.Follows.{get_op, plain_op, slot_of}

get_is_no_loop : (i j : Option ℕ) (k slot to : ℕ) → get_op i j ≡ op.EachNext k slot to → ⊥
get_is_no_loop (Some n) j k slot to e = cc
get_is_no_loop None (Some n) k slot to e = cc
get_is_no_loop None None k slot to e = cc

atom_is_no_loop : (p : Protocol) (names : List Name) (l : Expr-F Expr) (k slot to : ℕ) →
    atom_op p names l ≡ Some (op.EachNext k slot to) → ⊥
atom_is_no_loop p names (Expr-F.Number n) k slot to e = cc
atom_is_no_loop p names Expr-F.True k slot to e = cc
atom_is_no_loop p names Expr-F.False k slot to e = cc
atom_is_no_loop p names Expr-F.Empty k slot to e = cc
atom_is_no_loop p names Expr-F.Src k slot to e = get_is_no_loop (slot_of names (codes "src"))
    (info_number p (codes "src")) k slot to (cc)
atom_is_no_loop p names Expr-F.SelfNode k slot to e = cc
atom_is_no_loop p names Expr-F.Home k slot to e = cc
atom_is_no_loop p names (Expr-F.Var name) k slot to e = get_is_no_loop (slot_of names name) (info_number p name) k slot to (cc)
atom_is_no_loop p names (Expr-F.One a) k slot to e = cc
atom_is_no_loop p names (Expr-F.Not a) k slot to e = cc
atom_is_no_loop p names (Expr-F.Count a) k slot to e = cc
atom_is_no_loop p names (Expr-F.Two o a b) k slot to e = cc

module _ {p : Protocol} {names : List Name} {ops : List OpCode} where
  pub expr_begins_no_loop : {at after : ℕ} {e : Expr} → Evaluates p names ops at e after → (k slot to : ℕ) →
      HasOp ops at (op.EachNext k slot to) → ⊥
  expr_begins_no_loop (atom {e = e} {o = o} a h) k slot to z =
      let same : o ≡ op.EachNext k slot to = cc in atom_is_no_loop p names (out-Expr e) k slot to (a ∙ ap Some same)
  expr_begins_no_loop (single d x h) k slot to z = expr_begins_no_loop x k slot to z
  expr_begins_no_loop (negation d x h) k slot to z = expr_begins_no_loop x k slot to z
  expr_begins_no_loop (counting d x h) k slot to z = expr_begins_no_loop x k slot to z
  expr_begins_no_loop (pair d x y h) k slot to z = expr_begins_no_loop x k slot to z

  -- where arguments begin with one, there are none, and it is the op behind them
  pub args_begin_no_loop : {at after : ℕ} {es : List Expr} → EvaluatesAll p names ops at es after →
      (k slot to : ℕ) (o : OpCode) → HasOp ops at (op.EachNext k slot to) → HasOp ops after o → o ≡ op.EachNext k slot to
  args_begin_no_loop none k slot to o z h = cc
  args_begin_no_loop (more x xs) k slot to o z h = absurd (expr_begins_no_loop x k slot to z)

pub plain_begins_no_loop : (l : Layer) (k slot to : ℕ) → plain_op l ≡ Some (op.EachNext k slot to) → ⊥
plain_begins_no_loop (Do-F.SetTag tag) k slot to e = cc
plain_begins_no_loop Do-F.Install k slot to e = cc
plain_begins_no_loop Do-F.Enqueue k slot to e = cc
plain_begins_no_loop Do-F.WakeUp k slot to e = cc
plain_begins_no_loop _ k slot to e = cc
