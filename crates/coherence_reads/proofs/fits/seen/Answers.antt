use Rattle.coherence_reads.proofs.fits.seen.Goals as goal

pub returns : goal.returns
returns c = λ w ws s h. record {
  state = h.state;
  gets = c.gets_rw.ensures w ws s h;
  ro = c.asks_ro.ensures w ws s h;
  wr = c.asks_rw.ensures w ws s h;
  down = h.down.few;
  up = h.up.few;
}
