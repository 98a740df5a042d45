use Rattle.node_meaning.proofs.Ready.{ready_for_faults, ready_for_firsts, ready_for_fronts, runs_are_bounded}
use Rattle.node_meaning.proofs.laws.nodes_are_ready_for_handlers.Goals as goal

pub returns : goal.returns
returns c = record {
  faults = ready_for_faults;
  firsts = ready_for_firsts;
  fronts = ready_for_fronts;
  runs = runs_are_bounded c.lower_laws.ensures;
}
