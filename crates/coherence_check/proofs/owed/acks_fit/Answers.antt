use Rattle.std.proofs.Common.{◌≡◌, ap, sym, ◌∙◌}
use Rattle.std.proofs.lemmas.Bool.Decides.{Decides-eqb}
use Rattle.block_spots.specs.Cases.{Here, HomeAcks}
use Rattle.dsm_model.specs.Globals.{setup_of, world_of}
use Rattle.block_reads.specs.Whose.{state_in}
use Rattle.coherence_check.specs.Under.{home_under}
use Rattle.coherence_check.proofs.Together.{counts_so, owed_alike}
use Rattle.coherence_check.proofs.owed.acks_fit.Goals as goal

pub returns-in-HomeAcks : goal.returns-in-HomeAcks
returns-in-HomeAcks c =
    let s = setup_of c.args.g.now in
    let w = world_of c.args.g.now in
    let collects : (home_under c.args.directory s w c.args.block).state ≡ HomeAcks =
    sym (ap (λ (x : Here). x.state) c.home_at-own.ensures) ∙ ap state_in c.in-HomeAcks.is in
    counts_so _ c.from.result c.owed.result _ _ _ (Decides-eqb c.from.result c.owed.result) collects
    (c.from.ensures ∙ ap (λ (x : Here). x.acks) c.home_at-own.ensures)
    (c.owed.ensures ∙ sym (owed_alike c.args.directory s w c.args.block s.shape.nodes))
