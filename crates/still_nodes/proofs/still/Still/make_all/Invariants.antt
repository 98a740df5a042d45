use Rattle.std.proofs.Common.{◌≡◌}
use Rattle.still_meaning.specs.Stills.{IsSpread}
use Rattle.still_nodes.specs.Driving.{Drives}
use Rattle.still_nodes.specs.Telling.{Tells}
use Rattle.still_nodes.proofs.still.Still.make_all.Given as goal

abbrev pub invariant-loop-event : goal.invariant-loop-event
invariant-loop-event l = record {
  drives : Drives l.initial.self l.self l.events l.count;
  count : l.count ≡ l.event-index;
  spread : IsSpread l.self;
  told : Tells l.self l.words;
}
