use Rattle.std.proofs.Common.{◌≡◌, [], drop}
use Rattle.tempest_input.specs.Numbers.{gathered}
use Rattle.tempest_input.specs.Settings.{program_in}
use Rattle.tempest_input.proofs.setup.parsed.Given as goal

abbrev pub invariant-loop-section : goal.invariant-loop-section
invariant-loop-section l = gathered (program_in l.version) l.done.items (drop l.section-index l.sections)
    ≡ gathered (program_in l.version) [] l.sections
