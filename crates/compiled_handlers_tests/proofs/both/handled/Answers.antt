use Rattle.std.proofs.Common.{◌∙◌}
use Rattle.compiled_handlers_tests.proofs.Standing.{some_state}
use Rattle.compiled_handlers_tests.proofs.both.handled.Goals as goal

pub run-requires : goal.run-requires
run-requires c = some_state _ _ (c.ready.ensures.alike _ _ c.requires.alike).fits

pub run_code-ran-requires-clause-alike : goal.run_code-ran-requires-clause-alike
run_code-ran-requires-clause-alike c = c.ready.ensures.alike _ _ c.requires.alike

pub returns-clause-beside : goal.returns-clause-beside
returns-clause-beside c = λ other there b.
    let room = c.ready.ensures.beside c.args.p.now c.args.code.now c.args.m.now.block other there b in
    let ran = c.run_code-ran.ensures.beside other there room.beside in
    record { beside = ran.beside; records = ran.records ∙ room.records }
