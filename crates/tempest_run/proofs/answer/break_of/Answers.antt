use Rattle.std.proofs.Common.{refl}
use Rattle.tempest_run.proofs.Runs.{run_is_short}
use Rattle.tempest_run.proofs.Telling.{broken_is}
use Rattle.tempest_run.proofs.answer.break_of.Goals as goal

pub first_break-requires : goal.first_break-requires
first_break-requires c =
    run_is_short c.args.setup.now c.args.journal.now c.runs_are_short.ensures.events c.shape.ensures.valid c.requires

pub returns : goal.returns
returns c =
    let s = c.args.setup.now in
    let j = c.args.journal.now in
    record {
      value =
          broken_is s j j c.in_ok-flat.flat c.shape.result c.init.result.now c.programs.result.now c.first_break.result
          c.first_break.ensures c.in_ok-flat.ensures c.shape.ensures.value c.init.ensures.value c.programs.ensures.value refl;
      valid = c.shape.ensures.valid;
    }
