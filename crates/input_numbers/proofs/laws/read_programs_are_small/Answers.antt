use Rattle.input_numbers.proofs.Programs.{programs-small}
use Rattle.input_numbers.proofs.laws.read_programs_are_small.Goals as goal

pub returns : goal.returns
returns c = programs-small
