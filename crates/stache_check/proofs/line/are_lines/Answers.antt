use Rattle.std.proofs.Common.{◌≡◌, true, ap, ◌∙◌, arith}
use Rattle.teapot_tree.specs.Bare.{bare}
use Rattle.stache_check.specs.Words.{line_of}
use Rattle.stache_check.proofs.Bares.{both_at}
use Rattle.stache_check.proofs.line.are_lines.Goals as goal

pub returns-then-not-is_line : goal.returns-then-not-is_line
returns-then-not-is_line c = (
  λ f. absurd (cc),
  λ h.
      let k : c.is_line.result ≡ true = c.is_line.ensures.1 (ap bare c.index-stmts-at.is
      ∙ both_at bare line_of _ _ _ _ _ c.loop-at-test.true (omega arith) h) in
      absurd (cc),
)
