use Rattle.printed_reports.proofs.Whole.{report_lexed}
use Rattle.printed_reports.proofs.laws.printed_reports_are_lexed.Goals as goal

pub returns : goal.returns
returns c = report_lexed c.report_has_the_prints.ensures
