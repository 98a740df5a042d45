use Rattle.tempest_run.proofs.Answered.{answers-answer}
use Rattle.tempest_run.proofs.CallLaws.{statuses_say}
use Rattle.tempest_run.proofs.laws.statuses_say.Goals as goal

pub returns : goal.returns
returns c = statuses_say answers-answer
