use Rattle.compiled_handlers.proofs.Ordering.{in_order}
use Rattle.compiled_handlers.proofs.handling.doors.Goals as goal

pub new-requires : goal.new-requires
new-requires c = in_order c.args.p.now c.args.code.now c.requires
