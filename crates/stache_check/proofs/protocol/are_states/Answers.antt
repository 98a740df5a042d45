use Rattle.std.proofs.Common.{◌≡◌, true, ap, ◌∙◌, arith}
use Rattle.teapot_tree.specs.Bare.{bare_state}
use Rattle.stache_check.specs.Words.{state_under}
use Rattle.stache_check.proofs.Bares.{both_at}
use Rattle.stache_check.proofs.protocol.are_states.Goals as goal

pub returns-then-not-is_state : goal.returns-then-not-is_state
returns-then-not-is_state c = (
  λ f. absurd (cc),
  λ h.
      let k : c.is_state.result ≡ true = c.is_state.ensures.1
      (ap bare_state c.index-states-at.is ∙ both_at bare_state (state_under c.args.directory) _ _ _ _ _ c.loop-at-test.true
      (omega arith) h) in
      absurd (cc),
)
