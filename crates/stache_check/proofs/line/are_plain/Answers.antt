use Rattle.std.proofs.Common.{◌≡◌, true, ap, ◌∙◌, arith}
use Rattle.teapot_tree.specs.Bare.{bare}
use Rattle.stache_check.specs.Words.{plain_of}
use Rattle.stache_check.proofs.Bares.{both_at}
use Rattle.stache_check.proofs.line.are_plain.Goals as goal

pub returns-then-not-is_plain : goal.returns-then-not-is_plain
returns-then-not-is_plain c = (
  λ f. absurd (cc),
  λ h.
      let k : c.is_plain.result ≡ true = c.is_plain.ensures.1
      (ap bare c.index-stmts-at.is ∙ both_at bare plain_of _ _ _ _ _ c.loop-at-test.true (omega arith) h) in
      absurd (cc),
)
