use Rattle.std.proofs.Common.{◌≡◌, drop}
use Rattle.std.specs.List.{flat_map}
use Rattle.teapot_tree.specs.declared.protocol.State.{State}
use Rattle.teapot_rules.specs.Faults.{names_cont}
use Rattle.teapot_rules.specs.Lists.{lesser, least, line_if}
use Rattle.teapot_rules.proofs.breaks.clashing_conts.Given as goal

abbrev pub invariant-loop-s : goal.invariant-loop-s
invariant-loop-s l = least (flat_map (λ (s : State). line_if (names_cont s) s.line) l.states)
    ≡ lesser l.least (least (flat_map (λ (s : State). line_if (names_cont s) s.line) (drop l.s-index l.states)))
