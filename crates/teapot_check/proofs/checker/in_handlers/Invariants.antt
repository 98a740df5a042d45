use Rattle.std.proofs.Common.{◌≡◌, drop}
use Rattle.teapot_rules.specs.Lists.{lesser, least}
use Rattle.teapot_check.specs.Handlers.{lines_in}
use Rattle.teapot_check.proofs.checker.in_handlers.Given as goal

abbrev pub invariant-loop-sight : goal.invariant-loop-sight
invariant-loop-sight l = least (lines_in l.rule l.sights) ≡ lesser l.least (least (lines_in l.rule (drop l.sight-index l.sights)))
