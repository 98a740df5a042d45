use Rattle.teapot_meaning.proofs.Starting.{fitting_blocks_stay_fit}
use Rattle.teapot_meaning.proofs.laws.fitting_blocks_stay_fit.Goals as goal

pub returns : goal.returns
returns c = fitting_blocks_stay_fit
