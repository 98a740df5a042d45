use Rattle.std.proofs.Common.{subst}
use Rattle.std.specs.Bool.{Decides}
use Rattle.block_spots.specs.Cases.{Rest, State}
use Rattle.block_spots.specs.Notes.{held_home}
use Rattle.note_reads.specs.Counts.{IsCount}
use Rattle.coherence_reads.specs.Directories.{HeldUnder}
use Rattle.block_reads.specs.Whose.{rest_in}
use Rattle.coherence_check.proofs.Deciding.{implies_so, waits_so}
use Rattle.coherence_check.proofs.waits.own_held.Goals as goal

pub returns : goal.returns
returns c = λ h i b l k.
    let x = c.args.x.now in
    let d = c.args.directory in
    let held : IsCount c.held_home.result (held_home (l.blocks b).rest) =
    subst (λ (r : Rest). IsCount c.held_home.result (held_home r)) k.rest c.held_home.ensures in
    let at : Decides c.held_for.result (HeldUnder d (l.blocks b).state (l.blocks b).rest l.next b) =
    subst (λ (r : Rest). Decides c.held_for.result (HeldUnder d (l.blocks b).state r l.next b)) k.rest
    (subst (λ (s : State). Decides c.held_for.result (HeldUnder d s (rest_in x.whose) l.next b)) k.state
    (c.held_for.ensures l b k.loads k.stores)) in
    implies_so _ _ _ _ _ k.own (waits_so _ _ _ _ _ _ _ (c.is_some.ensures _ held) k.blocked at c.waits.ensures) c.implies.ensures
