use Rattle.mini_asm.proofs.Versions.{program_of-other}
use Rattle.mini_asm.proofs.laws.programs_are_of_their_version.Goals as goal

pub returns : goal.returns
returns c = program_of-other
