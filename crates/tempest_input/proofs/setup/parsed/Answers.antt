use Rattle.std.proofs.lemmas.Result.{err_from_is_err_and}
use Rattle.tempest_input.specs.Settings.{program_in}
use Rattle.tempest_input.proofs.Gathering.{given-turn, given-fault, gathered-end, next-of}
use Rattle.tempest_input.proofs.setup.parsed.Goals as goal

pub returns-in_err-program_in : goal.returns-in_err-program_in
returns-in_err-program_in c =
    let p = err_from_is_err_and c.from_residual.result c.from_residual.ensures.1 in
    rw (p.1, p.2) (given-fault (program_in c.args.version) c.loop-section.done.items c.args.sections.now
    c.loop-section.section-index _ (next-of _ _ _ c.loop-section-test.true c.section-item.is) _ _
    c.in_err-program_in.ensures c.loop-section.invariant)

pub loop-section-preserved : goal.loop-section-preserved
loop-section-preserved c =
    rw c.in_ok-push.ensures.items (given-turn (program_in c.args.version) c.loop-section.done.items c.args.sections.now
    c.loop-section.section-index _ (next-of _ _ _ c.loop-section-test.true c.section-item.is) _ _
    c.in_ok-program_in.ensures c.loop-section.invariant)

pub returns : goal.returns
returns c = gathered-end (program_in c.args.version) c.loop-section.done.items c.args.sections.now c.loop-section.section-index
    _ c.loop-section-test.false c.loop-section.invariant
