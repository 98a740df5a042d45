use Rattle.std.proofs.Common.{◌≡◌, ap, ◌∙◌}
use Rattle.std.proofs.lemmas.Result.{IfOk-weaker}
use Rattle.dsm_model.specs.Globals.{setup_of, world_of}
use Rattle.journal.specs.Finals.{finals_of}
use Rattle.journal.specs.Gathered.{words_of}
use Rattle.node_meaning.specs.Tallies.{first_tally}
use Rattle.tempest_run.proofs.Runs.{is_run, tells_of_run}
use Rattle.tempest_run.proofs.Telling.{from_start, tale}
use Rattle.tempest_run.proofs.answer.model_answer.Goals as goal

pub told_answer-requires : goal.told_answer-requires
told_answer-requires c =
    let s = c.args.setup.now in
    let j = c.in_ok-entries.entries in
    let h = world_of c.settle.new.g in
    let settles =
    from_start s (setup_of c.in_ok-g.g) c.args.stride (world_of c.in_ok-g.g) j h c.in_ok-g.ensures.setup c.in_ok-g.ensures.world
    c.in_ok-entries.ensures.settles in
    is_run s c.args.stride j c.items.result.now h c.schedules_are_one_run.ensures.run c.items.ensures settles

pub returns : goal.returns
returns c =
    let s = c.args.setup.now in
    let o = c.args.options in
    let j = c.in_ok-entries.entries in
    let h = world_of c.settle.new.g in
    let settles =
    from_start s (setup_of c.in_ok-g.g) c.args.stride (world_of c.in_ok-g.g) j h c.in_ok-g.ensures.setup c.in_ok-g.ensures.world
    c.in_ok-entries.ensures.settles in
    let same : setup_of c.settle.new.g ≡ s = c.settle.ensures.setup ∙ c.in_ok-g.ensures.setup in
    let finals : c.in_ok-finals.finals ≡ finals_of s h = c.in_ok-finals.ensures ∙ ap (λ x. finals_of x h) same in
    let words : c.in_ok-words.words ≡ words_of s h = c.in_ok-words.ensures ∙ ap (λ x. words_of x h) same in
    IfOk-weaker c.told_answer.result _ _
    (λ a is.
    tells_of_run s c.args.stride o a j h (first_tally s) c.schedules_are_one_run.ensures.run
    c.schedules_are_one_run.ensures.quiet c.history_is_told.ensures c.told_answer.ensures.valid settles
    (λ counted. absurd (cc (counted, c.requires)))
    (tale s o j c.items.result.now h (λ i. 0) (λ i. 0) c.items-2.result.now c.items-3.result.now a c.items.ensures
    (c.items-2.ensures ∙ finals) (c.items-3.ensures ∙ words) is))
    c.told_answer.ensures.value
