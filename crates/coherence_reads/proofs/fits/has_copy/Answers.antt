use Rattle.note_reads.proofs.Lists.{both_so}
use Rattle.coherence_reads.proofs.fits.has_copy.Goals as goal

pub returns : goal.returns
returns c = λ w n k i s h.
    let coming = both_so _ _ _ _ _ (c.brings_its_words.ensures w s h) (c.has_answered.ensures w _ s h) c.both-coming.ensures in
    let all = both_so _ _ _ _ _ (c.has_its_words.ensures w _ s h) coming c.both.ensures in
    (λ r. let p = all.0 r in (p.0, p.1.0, p.1.1), λ a. all.1 (a.0, (a.1, a.2)))
