use Rattle.run_reports.proofs.Reports.{read-back}
use Rattle.run_reports.proofs.laws.reports_of_runs_are_read_back.Goals as goal

pub returns : goal.returns
returns c =
    read-back c.printed_reports_are_lexed.ensures c.printed_reports_are_read.ensures c.runs_are_told.ensures
    c.numbers_of_runs_are_small.ensures
