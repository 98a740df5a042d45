-- A state as the tests of the model read it. They read no block, so any will do.
use Rattle.dsm_runs.specs.Locals.{Local}
use Rattle.dsm_runs.specs.Setups.{Setup, first_here}
use Rattle.node_core.specs.declared.state.State.{State}
use Rattle.node_core.specs.States.{parts_of}
use Rattle.node_meaning.specs.Nodes.{with_blocks}

abbrev pub as_tested : Setup → State → Local
as_tested s x = with_blocks (parts_of x) (first_here s 0)
