use Rattle.sound_runs.proofs.Sound.{shipped_are_sound_to_their_end}
use Rattle.sound_runs.proofs.laws.shipped_are_sound_to_their_end.Goals as goal

pub returns : goal.returns
returns c = shipped_are_sound_to_their_end
