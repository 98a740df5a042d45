use Rattle.std.proofs.Common.{◌≡◌, false, sym, rules}
use Rattle.code_rules.specs.Serving.{has_default}
use Rattle.code_rules.proofs.Belows.{all_below-fails}
use Rattle.code_rules.proofs.serving.have_defaults.Goals as goal

pub returns-then-not-has_default : goal.returns-then-not-has_default
returns-then-not-has_default c =
    let h : has_default c.args.doors.now c.loop-state.state ≡ false = search rules in
    sym (all_below-fails c.args.states (has_default c.args.doors.now) c.loop-state.state c.loop-state-test.true h)
