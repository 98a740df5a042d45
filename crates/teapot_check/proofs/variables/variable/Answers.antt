use Rattle.std.proofs.Common.{sym, ◌∙◌}
use Rattle.teapot_check.proofs.Tables.{variable_miss}
use Rattle.teapot_check.proofs.variables.variable.Goals as goal

pub loop-v-preserved : goal.loop-v-preserved
loop-v-preserved c =
    c.loop-v.invariant
    ∙ variable_miss c.args.variables.now c.loop-v.v-index c.v-item.result c.args.name.now c.loop-v-test.true c.v-item.is
    (sym c.is_named.ensures ∙ c.if-is_named.false)
