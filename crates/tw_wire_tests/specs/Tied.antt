-- Wires and the ends of all nodes.
use Rattle.std.specs.Prelude.{List, length, map}
use Rattle.tw_wire.specs.declared.ends.Ends.{Ends}
use Rattle.tw_wire.specs.Places.{Names}
use Rattle.tw_wire.specs.Lending.{shown}
use Rattle.tw_wire.specs.Wires.{AreAllEnds, AreNames}

-- the ends are those of these wires
pub record AreTied (names : Names) (ends : List Ends) : Type 0 where
  pub rows : AreNames (length names) names
  pub each : AreAllEnds (length names) names (map shown ends)
