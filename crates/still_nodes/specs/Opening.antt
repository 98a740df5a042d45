-- Nodes that were run otherwise, with what is left on the wires between them, as all nodes on one thread.
use Rattle.std.specs.Prelude.{ℕ, zero, suc, ◌*◌, ◌-◌, ◌++◌, List, [], ◌∷◌, drop, length, replicate, take}
use Rattle.tw_base.specs.declared.message.Message.{Message}
use Rattle.handler_code.specs.declared.code.Code.{Code}
use Rattle.dsm_runs.specs.Setups.{Setup}
use Rattle.node_meaning.specs.Nodes.{Shown}
use Rattle.still_meaning.specs.Stills.{StillShown}

-- these queues, and empty ones behind them up to sixteen
abbrev pub padded : List (List Message) → List (List Message)
padded queues = queues ++ replicate (16 - length queues) []

-- k rows, each of the next `width` queues
abbrev pub rows_of : ℕ → ℕ → List (List Message) → List (List (List Message))
rows_of width zero queues = []
rows_of width (suc k) queues = padded (take width queues) ∷ rows_of width k (drop width queues)

-- the nodes, and what is left by sender, receiver and channel
abbrev pub opened_still : Setup → Code → List Shown → List (List Message) → StillShown
opened_still s code nodes left = record {
  setup = s;
  code = code;
  nodes = nodes;
  rows = rows_of (2 * s.shape.nodes) s.shape.nodes left;
  taken = [];
}
