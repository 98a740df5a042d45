use Rattle.std.proofs.Common.{ℕ, ◌≡◌, ◌≤◌, [], map, Bool, sym, subst}
use Rattle.std.specs.Bool.{Decides}
use Rattle.block_spots.specs.Notes.{kept_notes}
use Rattle.block_spots.specs.Views.{seen_waiting}
use Rattle.note_reads.proofs.Deferring.{none_from}
use Rattle.note_reads.proofs.deferred.are_none_from.Goals as goal

pub returns : goal.returns
returns c =
    let ws = c.args.deferred.now in
    subst (λ (r : Bool). Decides r ((j : ℕ) → c.args.least ≤ j → kept_notes c.args.block j (map seen_waiting ws) ≡ []))
    (sym c.all_none_from.ensures) (none_from c.args.block c.args.least ws)
