use Rattle.std.proofs.Common.{◌≡◌, ◌++◌, take}
use Rattle.std.specs.List.{flat_map}
use Rattle.teapot_tree.specs.declared.protocol.Handler.{Handler}
use Rattle.teapot_tree.specs.declared.rule.Rule.{Rule}
use Rattle.teapot_rules.specs.Faults.{handler_lines}
use Rattle.teapot_check.specs.Handlers.{lines_in, scope_in}
use Rattle.teapot_check.proofs.handlers.add.Given as goal

abbrev pub invariant-loop-handler : goal.invariant-loop-handler
invariant-loop-handler l = (r : Rule) → lines_in r l.sights
    ≡ lines_in r l.initial.sights ++ flat_map (λ (h : Handler). handler_lines r (scope_in l.protocol l.state h))
    (take l.handler-index l.handlers)
