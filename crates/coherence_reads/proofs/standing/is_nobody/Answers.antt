use Rattle.std.proofs.Common.{◌≡◌, false, subst, sym, ◌∙◌, rules}
use Rattle.tw_base.specs.NodeSets.{empty, has}
use Rattle.coherence_reads.proofs.Sets.{nobody_has, nobody_is}
use Rattle.coherence_reads.proofs.standing.is_nobody.Goals as goal

pub returns : goal.returns
returns c = (
  λ r k. let e : c.args.set ≡ empty = search (rules, r) in subst (λ s. has s k ≡ false) (sym e) (nobody_has k),
  λ h. let e : c.args.set ≡ c.empty.result = nobody_is c.args.set c.has-eight.ensures.eight h
      ∙ sym c.empty.ensures in search (rules, e),
)
