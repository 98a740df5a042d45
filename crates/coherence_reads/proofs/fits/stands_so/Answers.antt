use Rattle.coherence_reads.specs.Seeing.{here_in}
use Rattle.coherence_reads.proofs.fits.stands_so.Goals as goal

pub returns : goal.returns
returns c = λ w n k ws s h. c.stands.ensures (here_in c.args.home.now) c.args.node s _ _
    (c.seen.ensures w ws s h) c.of_home.ensures
