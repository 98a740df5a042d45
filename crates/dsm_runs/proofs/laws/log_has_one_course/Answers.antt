use Rattle.dsm_runs.specs.Replays.{begin}
use Rattle.dsm_runs.proofs.OneEnd.{goes_on_course}
use Rattle.dsm_runs.proofs.laws.log_has_one_course.Goals as goal

pub returns : goal.returns
returns c = λ s i log a b p q took. goes_on_course s i log (begin s i) a b p q took
