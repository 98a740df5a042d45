use Rattle.std.proofs.Common.{ℕ, List, map, subst, ap, ◌∙◌}
use Rattle.std.specs.Bool.{Decides}
use Rattle.block_spots.specs.Cases.{Here}
use Rattle.coherence_check.proofs.Deciding.{implies_so}
use Rattle.block_spots.specs.Views.{seen_waiting}
use Rattle.dsm_runs.specs.declared.mode.Waiting.{Waiting}
use Rattle.coherence_inv.specs.Coherent.{AllEligible, IsSettled}
use Rattle.dsm_model.specs.Globals.{setup_of, world_of}
use Rattle.coherence_check.proofs.Together.{seventh}
use Rattle.coherence_check.proofs.parts.all_eligible.Goals as goal

pub returns : goal.returns
returns c =
    let w = world_of c.args.g.now in
    let settled = subst (λ (z : Here). Decides c.is_settled.result (IsSettled z.state)) c.home_at-own.ensures
    c.is_settled.ensures in
    let eligible =
    subst (λ (ws : List Waiting). Decides c.are_eligible-eligible.result (AllEligible c.args.block (map seen_waiting ws)))
    (c.deferred.ensures ∙ ap (λ (k : ℕ). (w.locals k).deferred) c.home.ensures.value) c.are_eligible-eligible.ensures in
    seventh c.args.directory (setup_of c.args.g.now) (world_of c.args.g.now) c.args.block _
    (implies_so _ _ _ _ _ settled eligible c.implies.ensures)
