use Rattle.std.proofs.Common.{◌∙◌, ap}
use Rattle.tw_base.specs.NodeSets.{has}
use Rattle.teapot_meaning.specs.Steps.{set_of}
use Rattle.block_spots.specs.Cases.{members, without_node}
use Rattle.block_spots.specs.Views.{int_of, seen_kind, value_at, words_in}
use Rattle.stache_step.specs.Steps.{kind_of_note}
use Rattle.stache_step.proofs.Seen.{kind_is, same_row}
use Rattle.stache_step.proofs.step.row_seen.Goals as goal

pub returns : goal.returns
returns c =
    let m = c.args.m.now in
    let infos = c.items-infos.ensures in
    c.row_number.ensures ∙ same_row _ _ _ _ _ _ _ _ _ _ c.place_seen-place.ensures
    (ap kind_of_note c.note_of-came.ensures ∙ kind_is (seen_kind m.kind) (words_in m.payload)) c.rest_read.ensures
    (c.others-others.ensures ∙ ap (λ s. members 8 (without_node (has s) m.from))
    (c.sharers.ensures ∙ ap (λ xs. set_of (value_at xs 0)) infos))
    (c.acks.ensures ∙ ap (λ xs. int_of (value_at xs 2)) infos)
