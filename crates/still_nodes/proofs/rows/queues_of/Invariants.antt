use Rattle.std.proofs.Common.{◌≡◌, map}
use Rattle.std.specs.Global.{Vec}
use Rattle.tw_base.specs.declared.message.Message.{Message}
use Rattle.still_nodes.proofs.rows.queues_of.Given as goal

abbrev pub invariant-loop-messages : goal.invariant-loop-messages
invariant-loop-messages l = l.queues.items ≡ map (λ (v : Vec Message). v.items) l.yielded
