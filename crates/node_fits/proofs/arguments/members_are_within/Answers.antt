use Rattle.std.proofs.Common.{arith, refl, sym, ◌∙◌, inl, inr}
use Rattle.std.proofs.lemmas.Bool.{cases_lt, false≢true}
use Rattle.node_fits.proofs.Fitting.{no_member}
use Rattle.node_fits.proofs.arguments.members_are_within.Goals as goal

pub returns : goal.returns
returns c = (
  (λ _ k h. elim (cases_lt k 8) [
    | inl l ↦ c.loop-k.invariant.below k (omega arith) h
    | inr past ↦ absurd (false≢true (sym (no_member c.args.set k (omega (arith, c.loop-k.invariant.eight (omega arith)))) ∙ h))
  ]),
  (λ _. refl),
)
