use Rattle.tempest_run.proofs.Answered.{Laws, one_answer}
use Rattle.tempest_run.proofs.laws.answer_is_one.Goals as goal

pub returns : goal.returns
returns c =
    let laws : Laws = record {
      runs = c.schedules_are_one_run.ensures.one;
      counts = c.counts_are_one.ensures;
      codes = c.one_code.ensures;
      trials = c.trials_are_one.ensures.one;
    } in
    one_answer laws
