use Rattle.sample_runs.specs.Summaries.{summary_node}
use Rattle.printed_text.proofs.Enumerating.{flat_map-enumerate_from-more, grown_by}
use Rattle.sample_runs.proofs.text.add_nodes.Goals as goal

pub loop-node-preserved : goal.loop-node-preserved
loop-node-preserved c =
    grown_by c.args.out.now c.loop-node.out c.add_node.new.out _ _ _ c.loop-node.invariant c.in_ok-add_node.ensures
    (flat_map-enumerate_from-more (summary_node c.args.names.now.protocol.now c.args.journal.now) c.args.finals.now
    c.loop-node.node _ c.loop-node-test.true)
