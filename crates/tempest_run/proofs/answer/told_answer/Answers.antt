use Rattle.std.proofs.Common.{◌∙◌}
use Rattle.tempest_run.proofs.Telling.{told}
use Rattle.tempest_run.proofs.answer.told_answer.Goals as goal

pub returns : goal.returns
returns c =
    record {
      value =
          told c.args.setup.now c.args.options c.args.journal.now c.args.finals.now c.args.words.now c.in_ok-broken.broken
          c.status_of.result c.of.result c.in_ok-broken.ensures.value c.status_of.ensures (c.of.ensures ∙ c.in_ok-text.ensures);
      valid = c.in_ok-broken.ensures.valid;
    }
