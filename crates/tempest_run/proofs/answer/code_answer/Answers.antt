use Rattle.std.proofs.Common.{◌∙◌}
use Rattle.tempest_run.proofs.Telling.{coded}
use Rattle.tempest_run.proofs.answer.code_answer.Goals as goal

pub returns : goal.returns
returns c = coded c.args.protocol.now c.in_ok-code.code c.of.result c.in_ok-code.ensures.code
    (c.of.ensures ∙ c.in_ok-text.ensures)
