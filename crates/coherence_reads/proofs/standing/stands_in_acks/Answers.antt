use Rattle.std.proofs.Common.{◌≡◌, ap, sym, subst, ◌∙◌}
use Rattle.std.specs.Bool.{Decides}
use Rattle.block_spots.specs.Cases.{OfRo, Rest}
use Rattle.block_spots.specs.Notes.{held_ro, held_rw}
use Rattle.note_reads.specs.Counts.{IsCount}
use Rattle.block_reads.specs.Whose.{rest_in}
use Rattle.stache_l_inv.specs.Coherent.{InAcks}
use Rattle.coherence_reads.proofs.Collecting.{for_others, for_reader}
use Rattle.coherence_reads.proofs.standing.stands_in_acks.Goals as goal

pub returns-in-OfRo : goal.returns-in-OfRo
returns-in-OfRo c = λ h i s ro wr seen has.
    let reads : h.rest ≡ OfRo c.in-OfRo.field-0 = has.rest ∙ ap rest_in c.in-OfRo.is in
    subst (λ (z : Rest). Decides c.stands_for_reader.result (InAcks z h.sharers i s ro wr)) (sym reads)
    (for_reader c.in-OfRo.field-0 i h.sharers c.args.has.member s ro wr _ has.shares
    (c.stands_for_reader.ensures s ro wr _ seen (subst (λ (z : Rest). IsCount c.args.has.held_ro (held_ro z i)) reads has.reads)))

pub returns-in_default : goal.returns-in_default
returns-in_default c = λ h i s ro wr seen has.
    subst (λ (z : Rest). Decides c.stands_acks.result (InAcks z h.sharers i s ro wr)) (sym has.rest)
    (for_others c.args.has.whose h.sharers i s ro wr _ c.in_default.not-OfRo
    (c.stands_acks.ensures s ro wr _ seen (subst (λ (z : Rest). IsCount c.args.has.held_rw (held_rw z i)) has.rest has.writes)))
