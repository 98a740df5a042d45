use Rattle.still_nodes.proofs.Acting.{refills_after}
use Rattle.still_nodes.proofs.still.Still.refill_after.Goals as goal

pub returns-in-Deliver : goal.returns-in-Deliver
returns-in-Deliver c =
    refills_after c.args.self.now c.refill.new.self c.args.event.now c.in-Deliver.at c.in-Deliver.from c.in-Deliver.chan
    c.in-Deliver.is c.refill.ensures
