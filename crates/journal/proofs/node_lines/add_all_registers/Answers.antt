use Rattle.journal.specs.Reports.{register_lines}
use Rattle.printed_text.proofs.Enumerating.{flat_map-enumerate_from-more, grown_by}
use Rattle.journal.proofs.node_lines.add_all_registers.Goals as goal

pub loop-node-preserved : goal.loop-node-preserved
loop-node-preserved c =
    grown_by c.args.out.now c.loop-node.out c.add_registers.new.out _ _ _ c.loop-node.invariant c.in_ok-add_registers.ensures
    (flat_map-enumerate_from-more register_lines c.args.finals.now c.loop-node.node _ c.loop-node-test.true)
