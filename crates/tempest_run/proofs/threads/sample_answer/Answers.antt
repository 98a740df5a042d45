use Rattle.std.proofs.Common.{◌≡◌, List, ap, ◌∙◌}
use Rattle.tw_base.specs.declared.entry.Entry.{Entry}
use Rattle.journal.specs.History.{first_break}
use Rattle.tempest_run.specs.declared.threads.ThreadedRun.{ThreadedRun}
use Rattle.tempest_run.proofs.Merged.{told_is_run, tells_of_sample}
use Rattle.tempest_run.proofs.threads.sample_answer.Goals as goal

pub break_of-requires : goal.break_of-requires
break_of-requires g c =
    let run = c.in_ok-run.run' in
    told_is_run c.in_ok-setup.setup run.journal c.items.result.now run.gathered
    (c.items.ensures ∙ ap (λ (r : ThreadedRun). r.journal) c.run-2.view_is) c.in_ok-run.ensures.run

pub returns : goal.returns
returns g c =
    let s = c.in_ok-setup.setup in
    let run = c.in_ok-run.run' in
    let broken : c.in_ok-broken.broken ≡ first_break s run.journal =
    c.in_ok-broken.ensures.value
    ∙ ap (λ (j : List Entry). first_break s j) (c.items.ensures ∙ ap (λ (r : ThreadedRun). r.journal) c.run-2.view_is) in
    tells_of_sample c.args.number s run.journal c.items-2.result.now run.gathered c.items-3.result.now c.items-4.result.now
    c.in_ok-broken.broken c.of.result c.history_is_told.ensures c.samples_have_one_summary.ensures.summary
    c.in_ok-setup.ensures.value c.in_ok-broken.ensures.valid
    c.in_ok-setup.ensures.stache c.in_ok-run.ensures.sorted c.in_ok-run.ensures.run
    (c.items-2.ensures ∙ ap (λ (r : ThreadedRun). r.journal) c.run-2.view_is)
    (c.items-3.ensures ∙ ap (λ (r : ThreadedRun). r.gathered.finals) c.run-2.view_is)
    (c.items-4.ensures ∙ ap (λ (r : ThreadedRun). r.gathered.words) c.run-2.view_is) broken (c.of.ensures ∙ c.in_ok-text.ensures)
