use Rattle.std.proofs.Common.{◌≡◌, not, drop}
use Rattle.std.specs.List.{flat_map}
use Rattle.teapot_tree.specs.declared.protocol.State.{State}
use Rattle.teapot_tree.specs.Rules.{has_default}
use Rattle.teapot_rules.specs.Lists.{lesser, least, line_if}
use Rattle.teapot_rules.proofs.breaks.without_default.Given as goal

abbrev pub invariant-loop-s : goal.invariant-loop-s
invariant-loop-s l = least (flat_map (λ (s : State). line_if (not (has_default s)) s.line) l.states)
    ≡ lesser l.least (least (flat_map (λ (s : State). line_if (not (has_default s)) s.line) (drop l.s-index l.states)))
