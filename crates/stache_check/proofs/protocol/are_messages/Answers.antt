use Rattle.std.proofs.Common.{◌≡◌, true, ap, ◌∙◌, arith}
use Rattle.teapot_tree.specs.Bare.{bare_message}
use Rattle.stache_check.specs.Words.{message_of}
use Rattle.stache_check.proofs.Bares.{both_at}
use Rattle.stache_check.proofs.protocol.are_messages.Goals as goal

pub returns-then-not-is_message : goal.returns-then-not-is_message
returns-then-not-is_message c = (
  λ f. absurd (cc),
  λ h.
      let k : c.is_message.result ≡ true = c.is_message.ensures.1
      (ap bare_message c.index-messages-at.is ∙ both_at bare_message message_of _ _ _ _ _ c.loop-at-test.true
      (omega arith) h) in
      absurd (cc),
)
