use Rattle.std.proofs.Common.{ap, ◌∙◌}
use Rattle.std.proofs.lemmas.Result.{IfOk-weaker}
use Rattle.tempest_run.specs.declared.threads.ThreadedRun.{ThreadedRun}
use Rattle.tempest_run.proofs.Merged.{told_is_run, tells_of_threads}
use Rattle.tempest_run.proofs.threads.run_answer.Goals as goal

pub told_answer-requires : goal.told_answer-requires
told_answer-requires g c =
    let run = c.in_ok-run.run' in
    told_is_run c.args.setup.now run.journal c.items.result.now run.gathered
    (c.items.ensures ∙ ap (λ (r : ThreadedRun). r.journal) c.run-2.view_is) c.in_ok-run.ensures.run

pub returns : goal.returns
returns g c =
    let s = c.args.setup.now in
    let o = c.args.options in
    let run = c.in_ok-run.run' in
    IfOk-weaker c.told_answer.result _ _
    (λ a is.
    tells_of_threads s o a run.journal c.items.result.now run.gathered c.items-2.result.now c.items-3.result.now
    c.history_is_told.ensures c.told_answer.ensures.valid c.in_ok-run.ensures.sorted c.in_ok-run.ensures.run
    (c.items.ensures ∙ ap (λ (r : ThreadedRun). r.journal) c.run-2.view_is)
    (c.items-2.ensures ∙ ap (λ (r : ThreadedRun). r.gathered.finals) c.run-2.view_is)
    (c.items-3.ensures ∙ ap (λ (r : ThreadedRun). r.gathered.words) c.run-2.view_is) is)
    c.told_answer.ensures.value
