use Rattle.std.proofs.Common.{map, Bool, sym, subst}
use Rattle.std.specs.Bool.{Decides}
use Rattle.block_spots.specs.Views.{seen_waiting}
use Rattle.coherence_inv.specs.Coherent.{AllEligible}
use Rattle.note_reads.proofs.Deferring.{eligible}
use Rattle.note_reads.proofs.deferred.are_eligible.Goals as goal

pub returns : goal.returns
returns c =
    let ws = c.args.deferred.now in
    subst (λ (r : Bool). Decides r (AllEligible c.args.block (map seen_waiting ws))) (sym c.all_eligible.ensures)
    (eligible c.args.block ws)
