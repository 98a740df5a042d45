use Rattle.report_laws.proofs.Laying.{read-laid}
use Rattle.report_laws.proofs.laws.laid_out_reports_are_read.Goals as goal

pub returns : goal.returns
returns c = read-laid
