use Rattle.printed_reports.proofs.Laid.{report_read}
use Rattle.printed_reports.proofs.laws.printed_reports_are_read.Goals as goal

pub returns : goal.returns
returns c = report_read c.laid_out_reports_are_read.ensures
