use Rattle.std.proofs.Common.{sym, subst, ◌∙◌}
use Rattle.std.proofs.lemmas.Result.{IfOk-weaker}
use Rattle.compiled_meaning.specs.Whole.{IsCode}
use Rattle.handler_code.specs.declared.code.Code.{Code}
use Rattle.teapot_tree.specs.declared.protocol.Protocol.{Protocol}
use Rattle.still_meaning.specs.Stills.{tallies}
use Rattle.tempest_run.proofs.Runs.{Settled, is_run, nodes_settled, nodes_tale, tells_of_run}
use Rattle.tempest_run.proofs.answer.nodes_answer.Goals as goal

pub told_answer-requires : goal.told_answer-requires
told_answer-requires c =
    let s = c.args.setup.now in
    let new = c.settle.new.self in
    let of_text : IsCode s.protocol c.in_ok-code.code =
    subst (λ (p : Protocol). IsCode p c.in_ok-code.code) c.protocol.ensures.value c.in_ok-code.ensures.code in
    let is_code : IsCode s.protocol c.in_ok-still.still.code =
    subst (λ (code : Code). IsCode s.protocol code) (sym c.in_ok-still.ensures.code) of_text in
    let end : Settled s c.args.stride new =
    nodes_settled s c.args.stride c.in_ok-still.still new c.in_ok-still.ensures.setup c.in_ok-still.ensures.taken
    c.in_ok-still.ensures.start c.in_ok-still.ensures.tallies is_code c.in_ok-settle.ensures.settled in
    is_run s c.args.stride new.taken c.taken.result.now end.state c.schedules_are_one_run.ensures.run c.taken.ensures end.schedule

pub returns : goal.returns
returns c =
    let s = c.args.setup.now in
    let o = c.args.options in
    let new = c.settle.new.self in
    let of_text : IsCode s.protocol c.in_ok-code.code =
    subst (λ (p : Protocol). IsCode p c.in_ok-code.code) c.protocol.ensures.value c.in_ok-code.ensures.code in
    let is_code : IsCode s.protocol c.in_ok-still.still.code =
    subst (λ (code : Code). IsCode s.protocol code) (sym c.in_ok-still.ensures.code) of_text in
    let end : Settled s c.args.stride new =
    nodes_settled s c.args.stride c.in_ok-still.still new c.in_ok-still.ensures.setup c.in_ok-still.ensures.taken
    c.in_ok-still.ensures.start c.in_ok-still.ensures.tallies is_code c.in_ok-settle.ensures.settled in
    IfOk-weaker c.told_answer.result _ _
    (λ a is.
    tells_of_run s c.args.stride o a new.taken end.state (tallies new) c.schedules_are_one_run.ensures.run
    c.schedules_are_one_run.ensures.quiet c.history_is_told.ensures c.protocol.ensures.valid end.schedule (λ asked. end.counts)
    (nodes_tale s o new end.state c.taken.result.now c.items.result.now c.items-2.result.now a
    c.what_is_read_is_the_states.ensures c.protocol.ensures.valid end.same_setup end.still c.taken.ensures
    (c.items.ensures ∙ c.in_ok-finals.ensures)
    (c.items-2.ensures ∙ c.in_ok-words.ensures) is))
    c.told_answer.ensures.value
