use Rattle.note_reads.proofs.Lists.{both_so}
use Rattle.coherence_reads.proofs.fits.has_its_notes.Goals as goal

pub returns : goal.returns
returns c = λ w n k i ws home s h.
    let requests = both_so _ _ _ _ _ h.ask.gets h.kept.gets c.both-requests.ensures in
    let others = both_so _ _ _ _ _ (c.are_down.ensures w ws _ h.down) (c.are_up.ensures w _ _ h.up) c.both.ensures in
    let all = both_so _ _ _ _ _ requests others c.both-2.ensures in
    (λ r. let p = all.0 r in (p.0.0, p.0.1, p.1.0, p.1.1), λ a. all.1 ((a.0, a.1), (a.2, a.3)))
