use Rattle.still_meaning.proofs.Choosing.{tests_tell}
use Rattle.still_meaning.proofs.laws.tests_tell_what_is_enabled.Goals as goal

pub returns : goal.returns
returns c = tests_tell
