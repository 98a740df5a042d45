use Rattle.std.proofs.Common.{◌≡◌, true}
use Rattle.tw_base.specs.Bits.{all_below}
use Rattle.code_rules.specs.Serving.{has_default}
use Rattle.code_rules.proofs.serving.have_defaults.Given as goal

abbrev pub invariant-loop-state : goal.invariant-loop-state
invariant-loop-state l = all_below l.state (has_default l.doors) ≡ true
