use Rattle.std.proofs.Common.{◌≡◌, not, drop}
use Rattle.std.specs.List.{list_all}
use Rattle.teapot_tree.specs.declared.protocol.Handler.{Handler}
use Rattle.teapot_tree.specs.Rules.{is_default}
use Rattle.teapot_rules.proofs.breaks.has_default.Given as goal

abbrev pub invariant-loop-h : goal.invariant-loop-h
invariant-loop-h l = list_all (λ (h : Handler). not (is_default h.on)) l.handlers
    ≡ list_all (λ (h : Handler). not (is_default h.on)) (drop l.h-index l.handlers)
