use Rattle.replay_laws.proofs.Replayed.{runs-replayed}
use Rattle.replay_laws.proofs.laws.printed_runs_are_replayed.Goals as goal

pub returns : goal.returns
returns c = runs-replayed
