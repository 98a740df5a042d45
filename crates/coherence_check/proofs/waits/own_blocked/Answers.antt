use Rattle.std.proofs.Common.{subst}
use Rattle.block_spots.specs.Cases.{Rest}
use Rattle.block_spots.specs.Notes.{held_home}
use Rattle.note_reads.specs.Counts.{IsCount}
use Rattle.coherence_check.proofs.Deciding.{implies_so}
use Rattle.coherence_check.proofs.waits.own_blocked.Goals as goal

pub returns : goal.returns
returns c = λ h i b l k.
    let held : IsCount c.held_home.result (held_home (l.blocks b).rest) =
    subst (λ (r : Rest). IsCount c.held_home.result (held_home r)) k.rest c.held_home.ensures in
    let one = c.is_one.ensures _ (c.plus-2.ensures _ _ (c.plus.ensures _ _ k.rd_fault k.wr_fault) held) in
    implies_so _ _ _ _ _ k.own (implies_so _ _ _ _ _ k.blocked one c.implies.ensures) c.implies-2.ensures
