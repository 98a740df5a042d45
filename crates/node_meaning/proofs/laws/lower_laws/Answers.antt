use Rattle.node_meaning.proofs.laws.lower_laws.Goals as goal

pub returns : goal.returns
returns c = record {
  within = c.messages_stay_within.ensures;
  apart = c.chains_stay_apart.ensures;
  few =
      c.handlers_send_few.ensures;
  eligible = c.eligible_messages_are_freed.ensures;
}
