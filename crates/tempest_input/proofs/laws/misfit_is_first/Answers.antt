use Rattle.tempest_input.proofs.Misfits.{first_misfit, one_misfit}
use Rattle.tempest_input.proofs.laws.misfit_is_first.Goals as goal

pub returns : goal.returns
returns c = record { first = first_misfit; one = one_misfit }
