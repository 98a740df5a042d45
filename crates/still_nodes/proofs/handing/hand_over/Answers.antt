use Rattle.still_nodes.proofs.Moving.{may_accept_now}
use Rattle.still_nodes.proofs.handing.hand_over.Goals as goal

pub accept-requires : goal.accept-requires
accept-requires c =
    may_accept_now c.args.nodes.now c.take_first-message.new.nodes c.args.node c.take_first-message.result c.requires
    c.take_first-message.ensures
