use Rattle.std.proofs.Common.{◌≡◌, ◌≤◌, ◌*◌, ◌^◌}
use Rattle.tw_base.specs.Lists.{sum_below}
use Rattle.block_spots.specs.Notes.{owes}
use Rattle.coherence_inv.specs.Parts.{spots_seen}
use Rattle.dsm_model.specs.Globals.{setup_of, world_of}
use Rattle.coherence_check.proofs.owed.owed.Given as goal

abbrev pub invariant-loop-number : goal.invariant-loop-number
invariant-loop-number l = (l.sum ≡ sum_below l.number (λ j. owes (spots_seen (setup_of l.g) (world_of l.g) l.block j)))
    × (l.sum ≤ l.number * 2 ^ 33)
