use Rattle.replay_laws.proofs.OneReplay.{replays-one}
use Rattle.replay_laws.proofs.laws.replays_have_one_end.Goals as goal

pub returns : goal.returns
returns c = replays-one
