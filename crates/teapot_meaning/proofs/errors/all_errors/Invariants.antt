use Rattle.std.proofs.Common.{◌≡◌, take}
use Rattle.std.specs.List.{flat_map}
use Rattle.teapot_meaning.specs.Names.{state_errors}
use Rattle.teapot_meaning.proofs.errors.all_errors.Given as goal

abbrev pub invariant-loop-state : goal.invariant-loop-state
invariant-loop-state l = l.names ≡ flat_map state_errors (take l.state-index l.states)
