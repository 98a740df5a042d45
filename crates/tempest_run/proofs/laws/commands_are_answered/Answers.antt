use Rattle.tempest_run.proofs.Complete.{others_are_answered, valid_texts_are_answered}
use Rattle.tempest_run.proofs.laws.commands_are_answered.Goals as goal

pub returns : goal.returns
returns c = record { texts = valid_texts_are_answered; others = others_are_answered }
