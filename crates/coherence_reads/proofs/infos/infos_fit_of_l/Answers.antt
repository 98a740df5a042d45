use Rattle.coherence_reads.specs.Seeing.{here_in}
use Rattle.coherence_reads.proofs.Elsewhere.{infos_elsewhere}
use Rattle.coherence_reads.proofs.infos.infos_fit_of_l.Goals as goal

pub returns-in_default : goal.returns-in_default
returns-in_default c =
    infos_elsewhere c.args.x.now.place c.args.nodes c.args.home (here_in c.args.x.now) _ c.in_default.not-HomeRo
    c.in_default.not-HomeAcks c.infos_fit_of_stache.ensures
