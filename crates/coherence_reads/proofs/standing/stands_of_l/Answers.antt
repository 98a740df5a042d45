use Rattle.coherence_reads.proofs.Elsewhere.{stands_but_acks}
use Rattle.coherence_reads.proofs.standing.stands_of_l.Goals as goal

pub returns-in_default : goal.returns-in_default
returns-in_default c = λ h i s ro wr seen has. stands_but_acks c.args.home h i s ro wr _ c.in_default.not-HomeAcks
    (c.stands_of_stache.ensures h i s ro wr seen has)
