use Rattle.std.proofs.Common.{length}
use Rattle.still_meaning.specs.Stills.{Passes}
use Rattle.still_nodes.specs.Handing.{LeavesOthers, waits_at}
use Rattle.still_nodes.specs.Telling.{TellsBut}
use Rattle.still_nodes.proofs.still.Still.spread.Given as goal

abbrev pub invariant-loop : goal.invariant-loop
invariant-loop l =
    record {
      told : TellsBut l.self l.node l.words;
      passes : Passes l.initial.self l.self;
      others : LeavesOthers l.initial.self l.self l.node;
    }

abbrev pub decreases-loop : goal.decreases-loop
decreases-loop l = length (waits_at l.self l.node)
