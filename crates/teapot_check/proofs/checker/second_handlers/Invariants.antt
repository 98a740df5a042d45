use Rattle.std.proofs.Common.{◌≡◌, drop}
use Rattle.std.specs.List.{flat_map}
use Rattle.teapot_tree.specs.declared.protocol.State.{State}
use Rattle.teapot_rules.specs.Faults.{again_handlers}
use Rattle.teapot_rules.specs.Lists.{lesser, least}
use Rattle.teapot_check.proofs.checker.second_handlers.Given as goal

abbrev pub invariant-loop-s : goal.invariant-loop-s
invariant-loop-s l = least (flat_map (λ (s : State). again_handlers s.handlers) l.states)
    ≡ lesser l.least (least (flat_map (λ (s : State). again_handlers s.handlers) (drop l.s-index l.states)))
