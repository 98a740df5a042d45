use Rattle.tempest_input.proofs.Refusals.{never_both, no_memory, of_a_kind, one_refusal, valid_or_refused}
use Rattle.tempest_input.proofs.laws.input_is_valid_or_refused.Goals as goal

pub returns : goal.returns
returns c = record { some = valid_or_refused; apart = never_both; one = one_refusal; kinds = of_a_kind; no_memory = no_memory }
