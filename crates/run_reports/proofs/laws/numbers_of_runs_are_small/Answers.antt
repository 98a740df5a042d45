use Rattle.run_reports.proofs.Whole.{numbers-small}
use Rattle.run_reports.proofs.laws.numbers_of_runs_are_small.Goals as goal

pub returns : goal.returns
returns c =
    let runs = c.runs_are_short.ensures in
    numbers-small c.handlers_send_few.ensures (record { events = runs.events; stamps = runs.stamps; state = runs.state })
