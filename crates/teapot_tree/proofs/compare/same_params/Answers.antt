use Rattle.std.proofs.Common.{◌≡◌, true, ap, sym, ◌∙◌, arith}
use Rattle.teapot_tree.specs.Bare.{bare_param}
use Rattle.teapot_tree.proofs.Bares.{map_at}
use Rattle.teapot_tree.proofs.compare.same_params.Goals as goal

pub returns-then-not-same : goal.returns-then-not-same
returns-then-not-same c = (
  λ f. absurd (cc),
  λ h.
      let e : bare_param c.index-a-at.result ≡ bare_param c.index-b-at.result = ap bare_param c.index-a-at.is
      ∙ map_at bare_param _ _ _ _ _ c.loop-at-test.true (omega arith) h ∙ sym (ap bare_param c.index-b-at.is) in
      let k : c.same.result ≡ true = c.same.ensures.1 e in
      absurd (cc),
)
