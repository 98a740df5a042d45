use Rattle.journal.specs.Reports.{node_line}
use Rattle.printed_text.proofs.Enumerating.{flat_map-enumerate_from-more, grown_by}
use Rattle.journal.proofs.node_lines.add_nodes.Goals as goal

pub loop-node-preserved : goal.loop-node-preserved
loop-node-preserved c =
    grown_by c.args.out.now c.loop-node.out c.add_node.new.out _ _ _ c.loop-node.invariant c.in_ok-add_node.ensures
    (flat_map-enumerate_from-more (node_line c.args.names.now.protocol.now) c.args.finals.now c.loop-node.node _
    c.loop-node-test.true)
