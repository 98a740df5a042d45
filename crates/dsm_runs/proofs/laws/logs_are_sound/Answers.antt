use Rattle.dsm_runs.specs.Replays.{begin}
use Rattle.dsm_runs.proofs.Stamps.{is_log, is_numbered, is_on}
use Rattle.dsm_runs.proofs.laws.logs_are_sound.Goals as goal

pub returns : goal.returns
returns c = record {
  log = λ s i log a r. is_log s i log (begin s i) a r;
  numbers = is_numbered;
  names = is_on;
}
