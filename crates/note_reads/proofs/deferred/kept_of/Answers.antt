use Rattle.std.proofs.Common.{List, length, refl, sym, subst}
use Rattle.std.proofs.lemmas.Option.{slice_get_read}
use Rattle.block_spots.specs.Notes.{Note}
use Rattle.note_reads.specs.Notes.{IsSummary}
use Rattle.note_reads.proofs.Deferring.{kept_none}
use Rattle.note_reads.proofs.deferred.kept_of.Goals as goal

pub loop-at-init : goal.loop-at-init
loop-at-init c = subst (λ (ns : List Note). IsSummary c.args.count c.args.words c.new-summary.result ns)
    (sym (kept_none c.args.block c.args.node)) (c.new-summary.ensures c.args.count c.args.words)

pub loop-at-preserved : goal.loop-at-preserved
loop-at-preserved c =
    let ws = c.args.deferred.now in
    c.with_one-summary.ensures c.loop-at.at ws (slice_get_read ws
    (length ws) c.loop-at.at c.index-deferred-at.result refl c.loop-at-test.true c.index-deferred-at.is) c.loop-at.invariant
