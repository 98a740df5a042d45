use Rattle.printed_reports.proofs.Entries.{runs_told}
use Rattle.printed_reports.proofs.laws.runs_are_told.Goals as goal

pub returns : goal.returns
returns c = runs_told
