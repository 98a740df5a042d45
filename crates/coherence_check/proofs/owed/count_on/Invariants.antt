use Rattle.std.proofs.Common.{◌≡◌, ◌≤◌}
use Rattle.tw_base.specs.Lists.{how_many}
use Rattle.tw_base.specs.declared.message.Chan.TheVariants.{One}
use Rattle.dsm_model.specs.Globals.{world_of}
use Rattle.coherence_check.specs.Owing.{owing}
use Rattle.coherence_check.specs.Said.{said_to}
use Rattle.coherence_check.proofs.owed.count_on.Given as goal

abbrev pub invariant-loop-k : goal.invariant-loop-k
invariant-loop-k l = (l.count ≡ how_many (owing l.inv) (said_to l.block l.k ((world_of l.g).wires l.from l.to One)))
    × (l.count ≤ l.k)
