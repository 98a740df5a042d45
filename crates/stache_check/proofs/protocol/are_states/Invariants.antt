use Rattle.std.proofs.Common.{◌≡◌, map, take}
use Rattle.teapot_tree.specs.Bare.{bare_state}
use Rattle.stache_check.specs.Words.{state_under}
use Rattle.stache_check.proofs.protocol.are_states.Given as goal

abbrev pub invariant-loop-at : goal.invariant-loop-at
invariant-loop-at l = map bare_state (take l.at l.states) ≡ map (state_under l.directory) (take l.at l.places)
