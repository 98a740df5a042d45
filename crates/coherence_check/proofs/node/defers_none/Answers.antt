use Rattle.std.proofs.Common.{ℕ, ◌≡◌, ◌≤◌, [], List, map, arith, subst}
use Rattle.std.specs.Bool.{Decides}
use Rattle.block_spots.specs.Notes.{kept_notes}
use Rattle.block_spots.specs.Views.{seen_waiting}
use Rattle.dsm_runs.specs.declared.mode.Waiting.{Waiting}
use Rattle.coherence_check.proofs.node.defers_none.Goals as goal

pub returns : goal.returns
returns c =
    let d = subst (λ (ws : List Waiting). Decides c.are_none_from.result
    ((j : ℕ) → 0 ≤ j → kept_notes c.args.block j (map seen_waiting ws) ≡ [])) c.deferred.ensures c.are_none_from.ensures in
    (λ r j. d.0 r j (omega arith), λ h. d.1 (λ j l. h j))
