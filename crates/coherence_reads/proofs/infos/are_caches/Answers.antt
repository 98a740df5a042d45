use Rattle.std.proofs.Common.{◌<◌, refl, arith}
use Rattle.coherence_reads.proofs.Members.{member_below}
use Rattle.coherence_reads.proofs.infos.are_caches.Goals as goal

pub returns : goal.returns
returns c = (
  λ r k e. let m : k < 8 = member_below c.args.set 8 k c.has-eight.ensures.eight e in c.loop-number.invariant k
      (omega (arith, c.loop-number-test.false)) e,
  λ h. refl,
)
