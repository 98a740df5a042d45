use Rattle.node_meaning.proofs.Made.{deliveries_are_made, faults_are_made, redeliveries_are_made}
use Rattle.node_meaning.proofs.laws.handler_events_are_made.Goals as goal

pub returns : goal.returns
returns c = record {
  faults = faults_are_made c.lower_laws.ensures;
  redeliveries = redeliveries_are_made c.lower_laws.ensures;
  deliveries = deliveries_are_made c.lower_laws.ensures;
}
