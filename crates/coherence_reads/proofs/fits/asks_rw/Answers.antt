use Rattle.coherence_reads.proofs.fits.asks_rw.Goals as goal

pub returns : goal.returns
returns c = λ w ws s h. c.plus.ensures _ _ (c.gets_rw.ensures w ws s h) c.held_rw.ensures
