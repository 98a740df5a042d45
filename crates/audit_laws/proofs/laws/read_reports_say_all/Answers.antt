use Rattle.audit_laws.proofs.Whole.{say-all}
use Rattle.audit_laws.proofs.laws.read_reports_say_all.Goals as goal

pub returns : goal.returns
returns c = say-all
