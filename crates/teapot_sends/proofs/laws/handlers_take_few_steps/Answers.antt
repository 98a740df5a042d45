use Rattle.teapot_sends.proofs.Soon.{few_steps}
use Rattle.teapot_sends.proofs.laws.handlers_take_few_steps.Goals as goal

pub returns : goal.returns
returns c = few_steps
