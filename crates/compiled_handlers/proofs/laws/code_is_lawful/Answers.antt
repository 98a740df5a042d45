use Rattle.std.proofs.Common.{length}
use Rattle.compiled_handlers.proofs.laws.code_is_lawful.Goals as goal

pub returns : goal.returns
returns c = λ p code accepted compiled. record {
  fit = λ here m. c.fitting_blocks_stay_fit.ensures p here m accepted;
  sends = λ here m e. c.handlers_send_few.ensures p here m e accepted;
  soon = λ here m e fits d. c.handlers_take_few_steps.ensures p here m e (length code.ops) accepted fits
      (c.code_has_an_op_for_each_statement.ensures p code accepted compiled) d;
  meant = c.code_does_what_is_meant.ensures p code accepted compiled;
  few = c.code_takes_few_ops.ensures p code accepted compiled;
}
