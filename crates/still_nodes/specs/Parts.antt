-- All nodes on one thread, of their parts.
use Rattle.std.specs.Prelude.{List}
use Rattle.tw_base.specs.declared.entry.Entry.{Entry}
use Rattle.tw_base.specs.declared.message.Message.{Message}
use Rattle.dsm_runs.specs.Setups.{Setup}
use Rattle.handler_code.specs.declared.code.Code.{Code}
use Rattle.node_meaning.specs.Nodes.{Shown}
use Rattle.still_meaning.specs.Stills.{StillShown}

-- what follows, by sender and at the place of each wire
abbrev pub Rows : Type 0
Rows = List (List (List Message))

abbrev pub all_of : Setup → Code → List Shown → Rows → List Entry → StillShown
all_of s code ns rows taken = record { setup = s; code = code; nodes = ns; rows = rows; taken = taken }
