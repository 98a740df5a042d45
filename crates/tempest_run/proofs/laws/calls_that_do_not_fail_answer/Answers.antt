use Rattle.tempest_run.proofs.CallLaws.{input_is_answered, length_is_refused, words_are_refused}
use Rattle.tempest_run.proofs.laws.calls_that_do_not_fail_answer.Goals as goal

pub returns : goal.returns
returns c = record { words = words_are_refused; length = length_is_refused; input = input_is_answered }
