use Rattle.std.proofs.Common.{ℕ, subst}
use borrow.Author.Count.{below_more}
use Rattle.dsm_model.specs.Globals.{setup_of, world_of}
use Rattle.coherence_reads.specs.Seeing.{which}
use Rattle.coherence_check.specs.Nodes.{NodeAt}
use Rattle.coherence_check.proofs.Loops.{some_is}
use Rattle.coherence_check.proofs.node.nodes_fit.Goals as goal

pub loop-number-preserved : goal.loop-number-preserved
loop-number-preserved c =
    let P : ℕ → Type 0 = λ i. NodeAt c.args.directory (which c.args.part) (setup_of c.args.g.now)
    (world_of c.args.g.now) c.args.block i in
    below_more P c.loop-number.number c.loop-number.invariant
    (subst P (some_is _ _ _ _ c.new.ensures c.unwrap-node.ensures) (c.node_at.ensures.0 (cc)))
