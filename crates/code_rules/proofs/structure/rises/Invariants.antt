use Rattle.std.proofs.Common.{◌≡◌, drop}
use Rattle.code_rules.specs.Structure.{rises_from}
use Rattle.code_rules.proofs.structure.rises.Given as goal

abbrev pub invariant-loop-door : goal.invariant-loop-door
invariant-loop-door l = rises_from 0 l.doors ≡ rises_from l.least (drop l.door-index l.doors)
