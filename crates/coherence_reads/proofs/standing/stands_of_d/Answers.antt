use Rattle.coherence_reads.proofs.Elsewhere.{stands_elsewhere}
use Rattle.coherence_reads.proofs.standing.stands_of_d.Goals as goal

pub returns-in_default : goal.returns-in_default
returns-in_default c = λ h i s ro wr seen has. stands_elsewhere c.args.home h i s ro wr _ c.in_default.not-HomePut
    (c.stands_of_stache.ensures h i s ro wr seen has)
