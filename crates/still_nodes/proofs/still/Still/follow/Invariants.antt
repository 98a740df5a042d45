use Rattle.still_meaning.specs.Stills.{IsSpread}
use Rattle.still_nodes.specs.Telling.{Tells}
use Rattle.still_nodes.proofs.Followed.{Follows}
use Rattle.still_nodes.proofs.still.Still.follow.Given as goal

abbrev pub invariant-loop-turn : goal.invariant-loop-turn
invariant-loop-turn l = record {
  follows : Follows l.initial.self l.self l.stride l.turn;
  spread : IsSpread l.self;
  told : Tells l.self l.words;
}
