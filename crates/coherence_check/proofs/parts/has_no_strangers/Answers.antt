use Rattle.std.proofs.Common.{◌≡◌, ◌≤◌, ℕ, [], List, map, subst, ap, ◌∙◌}
use Rattle.std.specs.Bool.{Decides}
use Rattle.dsm_model.specs.Globals.{setup_of, world_of}
use Rattle.dsm_runs.specs.Setups.{home_of}
use Rattle.block_spots.specs.Notes.{kept_notes}
use Rattle.block_spots.specs.Views.{seen_waiting}
use Rattle.dsm_runs.specs.declared.mode.Waiting.{Waiting}
use Rattle.coherence_check.proofs.parts.has_no_strangers.Goals as goal

pub returns : goal.returns
returns c =
    let r = c.are_none_from.result in
    let b = c.args.block in
    let w = world_of c.args.g.now in
    subst (λ (n : ℕ). Decides r ((j : ℕ) → n ≤ j → kept_notes b j
    (map seen_waiting (w.locals (home_of (setup_of c.args.g.now) b)).deferred) ≡ [])) c.nodes.ensures.value
    (subst (λ (ws : List Waiting). Decides r ((j : ℕ) → c.nodes.result ≤ j → kept_notes b j (map seen_waiting ws) ≡ []))
    (c.deferred.ensures ∙ ap (λ (k : ℕ). (w.locals k).deferred) c.home.ensures.value) c.are_none_from.ensures)
