use Rattle.std.proofs.lemmas.Result.{err_from_is_err_and}
use Rattle.tempest_input.specs.Numbers.{node_in}
use Rattle.tempest_input.proofs.Gathering.{gathered-turn, gathered-fault, gathered-end, next-of}
use Rattle.tempest_input.proofs.numbers.nodes_of.Goals as goal

pub returns-in_err-node_in : goal.returns-in_err-node_in
returns-in_err-node_in c =
    let p = err_from_is_err_and c.from_residual.result c.from_residual.ensures.1 in
    rw (p.1, p.2) (gathered-fault (node_in c.args.nodes) _ _ c.deref.ensures.value c.args.sections.now
    c.loop-section.section-index _ (next-of _ _ _ c.loop-section-test.true c.section-item.is) _ _ c.in_err-node_in.ensures
    c.loop-section.invariant)

pub loop-section-preserved : goal.loop-section-preserved
loop-section-preserved c =
    rw c.in_ok-push.ensures.items (gathered-turn (node_in c.args.nodes) _ _ c.deref.ensures.value c.args.sections.now
    c.loop-section.section-index _ (next-of _ _ _ c.loop-section-test.true c.section-item.is) _ _ c.in_ok-node_in.ensures
    c.loop-section.invariant)

pub returns : goal.returns
returns c = gathered-end (node_in c.args.nodes) c.loop-section.done.items c.args.sections.now c.loop-section.section-index _
    c.loop-section-test.false c.loop-section.invariant
