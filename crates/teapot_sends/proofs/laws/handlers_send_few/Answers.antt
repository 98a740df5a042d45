use Rattle.teapot_sends.proofs.Few.{sends_few}
use Rattle.teapot_sends.proofs.laws.handlers_send_few.Goals as goal

pub returns : goal.returns
returns c = sends_few
