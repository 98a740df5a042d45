use Rattle.setup_numbers.proofs.Settings.{settings-small}
use Rattle.setup_numbers.proofs.laws.settings_of_small_lines.Goals as goal

pub returns : goal.returns
returns c = settings-small c.read_programs_are_small.ensures
