use Rattle.dsm_runs.proofs.Bounds.{few_events, runs_bounded}
use Rattle.dsm_runs.proofs.laws.runs_are_short.Goals as goal

pub returns : goal.returns
returns c = record {
  events = few_events;
  stamps = λ s journal g r. (runs_bounded s journal g r).1;
  state = λ s journal g r. (runs_bounded s journal g r).0;
}
