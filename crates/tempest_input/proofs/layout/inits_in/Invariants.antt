use Rattle.std.proofs.Common.{◌≡◌, length}
use Rattle.tempest_input.specs.Layout.{inits_in}
use Rattle.tempest_input.proofs.Fronts.{before}
use Rattle.tempest_input.proofs.layout.inits_in.Given as goal

abbrev pub invariant-loop-init : goal.invariant-loop-init
invariant-loop-init l = before l.inits.items (inits_in l.lines) ≡ inits_in l.initial.lines

abbrev pub decreases-loop-init : goal.decreases-loop-init
decreases-loop-init l = length l.lines
