use Rattle.std.proofs.Common.{◌≡◌, ◌-◌}
use Rattle.tempest_input.specs.Layout.{sections_in, sections_below}
use Rattle.tempest_input.proofs.Fronts.{with_front}
use Rattle.tempest_input.proofs.layout.sections_in.Given as goal

abbrev pub invariant-loop : goal.invariant-loop
invariant-loop l = with_front l.sections.items (sections_below (l.most - l.counter) l.all l.lines)
    ≡ sections_in l.all l.initial.lines
