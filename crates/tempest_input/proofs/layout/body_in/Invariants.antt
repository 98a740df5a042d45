use Rattle.std.proofs.Common.{◌≡◌, length}
use Rattle.tempest_input.specs.Layout.{body_in}
use Rattle.tempest_input.proofs.Fronts.{with_lines}
use Rattle.tempest_input.proofs.layout.body_in.Given as goal

abbrev pub invariant-loop-line : goal.invariant-loop-line
invariant-loop-line l = with_lines l.body.items (body_in l.all l.lines) ≡ body_in l.all l.initial.lines

abbrev pub decreases-loop-line : goal.decreases-loop-line
decreases-loop-line l = length l.lines
