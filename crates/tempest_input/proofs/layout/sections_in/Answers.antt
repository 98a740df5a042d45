use Rattle.std.proofs.Common.{arith, sym, ◌∙◌}
use Rattle.std.proofs.lemmas.Result.{err_from_is_err_and}
use Rattle.tempest_input.proofs.Walking.{sections-turn, sections-end, sections-most, sections-fault}
use Rattle.tempest_input.proofs.layout.sections_in.Goals as goal

pub returns-in_default : goal.returns-in_default
returns-in_default c = rw c.of.ensures (sections-end _ _ _ _ _ (sym c.next_node.ensures ∙ c.in_default.is) c.loop.invariant)

pub returns-in_err-section_in : goal.returns-in_err-section_in
returns-in_err-section_in c =
    let p = err_from_is_err_and c.from_residual.result c.from_residual.ensures.1 in
    rw (p.1, p.2) (sections-fault _ _ _ _ c.in-Some.node _ _ _ c.loop-test.true
    (sym c.next_node.ensures ∙ c.in-Some.is) c.in_err-section_in.ensures c.loop.invariant)

pub loop-preserved : goal.loop-preserved
loop-preserved c =
    rw c.in_ok-push.ensures.items (sections-turn _ _ _ _ c.in-Some.node _ _ _ _ c.loop-test.true
    (sym c.next_node.ensures ∙ c.in-Some.is) c.in_ok-section_in.ensures c.loop.invariant)

pub returns : goal.returns
returns c = rw c.of-2.ensures (sections-most _ _ _ _ _ (omega (arith, c.loop-test.false)) c.loop.invariant)
