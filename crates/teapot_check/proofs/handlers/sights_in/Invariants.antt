use Rattle.std.proofs.Common.{◌≡◌, take}
use Rattle.std.specs.List.{flat_map}
use Rattle.teapot_tree.specs.declared.rule.Rule.{Rule}
use Rattle.teapot_check.specs.Handlers.{lines_in, state_lines}
use Rattle.teapot_check.proofs.handlers.sights_in.Given as goal

abbrev pub invariant-loop-state : goal.invariant-loop-state
invariant-loop-state l = (r : Rule) → lines_in r l.sights ≡ flat_map (state_lines r l.protocol) (take l.state-index l.states)
