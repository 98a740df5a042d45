use Rattle.std.proofs.Common.{◌+◌}
use Rattle.code_text.specs.Texts.{op_line}
use Rattle.printed_text.proofs.Growing.{grown}
use Rattle.code_text.proofs.ops.add_ops.Goals as goal

pub loop-i-preserved : goal.loop-i-preserved
loop-i-preserved c =
    grown (λ q. op_line c.args.names.now.protocol.now (c.args.at + q.0) q.1) c.args.out.now c.loop-i.out c.add_op_line.new.out
    c.args.ops.now c.loop-i.i c.index-ops-i.result
    c.loop-i-test.true c.index-ops-i.is c.loop-i.invariant c.in_ok-add_op_line.ensures
