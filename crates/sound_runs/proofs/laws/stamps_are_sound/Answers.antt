use Rattle.sound_runs.proofs.Stamps.{stamps_are_sound}
use Rattle.sound_runs.proofs.laws.stamps_are_sound.Goals as goal

pub returns : goal.returns
returns c = stamps_are_sound
