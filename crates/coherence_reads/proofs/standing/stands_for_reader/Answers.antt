use Rattle.coherence_reads.proofs.Collecting.{of_member, of_other}
use Rattle.coherence_reads.proofs.standing.stands_for_reader.Goals as goal

pub returns-then-member : goal.returns-then-member
returns-then-member c = λ s ro wr held seen h. of_member _ _ _ _ c.if-member.true (c.shares.ensures s ro wr seen)

pub returns-else-member : goal.returns-else-member
returns-else-member c = λ s ro wr held seen h. of_other _ _ _ _ c.if-member.false (c.stands_acks.ensures s ro wr held seen h)
