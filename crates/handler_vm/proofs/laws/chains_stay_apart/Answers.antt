use Rattle.handler_vm.proofs.Parting.{stay_apart}
use Rattle.handler_vm.proofs.laws.chains_stay_apart.Goals as goal

pub returns : goal.returns
returns c = stay_apart
