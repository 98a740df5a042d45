use Rattle.audit_meaning.proofs.Flat.{reports-flat}
use Rattle.audit_meaning.proofs.laws.accepted_reports_are_flat.Goals as goal

pub returns : goal.returns
returns c = reports-flat
