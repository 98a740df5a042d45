use Rattle.note_reads.proofs.Lists.{both_so}
use Rattle.coherence_reads.specs.Directories.{wording_under}
use Rattle.coherence_check.proofs.Together.{at_node}
use Rattle.coherence_check.proofs.waits.node_fits.Goals as goal

pub returns : goal.returns
returns c = λ s i b l k.
    let h = s.home b in
    let woken = both_so _ _ _ _ _ (c.woken_loads.ensures h i b l k) (c.woken_stores.ensures h i b l k) c.both-woken.ensures in
    let held = both_so _ _ _ _ _ (c.own_held.ensures h i b l k)
    (both_so _ _ _ _ _ (c.own_blocked.ensures h i b l k) woken c.both.ensures) c.both-held.ensures in
    let own = both_so _ _ _ _ _ (c.own_read.ensures h i b l k)
    (both_so _ _ _ _ _ (c.own_write.ensures h i b l k) held c.both-2.ensures) c.both-own.ensures in
    let all = both_so _ _ _ _ _ (c.waits_ro.ensures h i b l k)
    (both_so _ _ _ _ _ (c.waits_rw.ensures h i b l k) (both_so _ _ _ _ _
    (c.blocked_waits.ensures h i b l k) own c.both-3.ensures) c.both-4.ensures) c.both-5.ensures in
    at_node (wording_under c.args.directory).standing s l i b _ all
