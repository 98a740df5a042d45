-- One level of an expression's value.
use Rattle.std.proofs.Common.{◌≡◌}
use Rattle.tw_base.specs.declared.value.Value.{Value}
use Rattle.teapot_tree.specs.declared.expr.Expr.{Expr, out-Expr}
use Rattle.teapot_tree.specs.declared.expr.Expr.TheFolds.{fold_out-Expr, map-Expr}
use Rattle.teapot_tree.specs.declared.protocol.Protocol.{Protocol}
use Rattle.teapot_meaning.specs.declared.state.Running.{Running}
use Rattle.teapot_meaning.specs.Values.{value_of, value_step}

pub value_of-is : (p : Protocol) (r : Running) (e : Expr) → value_of p r e
    ≡ value_step p r (map-Expr Expr Value (value_of p r) (out-Expr e))
unfolding value_of
value_of-is p r e = fold_out-Expr Value (value_step p r) e
