use Rattle.std.proofs.Common.{◌+◌, sym, subst}
use Rattle.std.specs.Bool.{Decides}
use Rattle.tw_base.specs.Lists.{how_many}
use Rattle.block_spots.specs.Cases.{State}
use Rattle.block_spots.specs.Notes.{gets_ro, gets_rw, held_ro, held_rw, is_data_ro, is_data_rw}
use Rattle.coherence_inv.specs.Coherent.{OneRequest}
use Rattle.coherence_reads.specs.Seeing.{here_in}
use Rattle.coherence_reads.proofs.fits.has_one_request.Goals as goal

pub returns : goal.returns
returns c = λ d w n k ws s h.
    let rest = (here_in c.args.home.now).rest in
    subst (λ (z : State). Decides c.one_request.result (OneRequest z (gets_ro s + held_ro rest c.args.node)
    (how_many is_data_ro s.down) (gets_rw s + held_rw rest c.args.node) (how_many is_data_rw s.down))) (sym h.state)
    (c.one_request.ensures _ _ _ _ (c.plus.ensures _ _ (c.asks_ro.ensures w ws s h) h.down.data_ro)
    (c.plus-2.ensures _ _ (c.asks_rw.ensures w ws s h) h.down.data_rw))
