use Rattle.std.proofs.Common.{◌≡◌, ◌+◌, ℕ, map, ap, ◌∙◌}
use Rattle.tw_base.specs.Lists.{how_many}
use Rattle.tw_base.specs.declared.message.Chan.TheVariants.{One}
use Rattle.block_spots.specs.Notes.{is_ack, is_inv, notes}
use Rattle.block_spots.specs.Sketches.{spot_at}
use Rattle.block_spots.specs.Views.{seen_message}
use Rattle.dsm_model.specs.Globals.{setup_of, world_of}
use Rattle.dsm_runs.specs.Setups.{home_of}
use Rattle.coherence_check.proofs.owed.owed_at.Goals as goal

pub returns-clause-value : goal.returns-clause-value
unfolding spot_at
returns-clause-value c =
    let w = world_of c.args.g.now in
    let h = home_of (setup_of c.args.g.now) c.args.block in
    let down : c.count_on.result ≡ how_many is_inv (notes c.args.block (map seen_message (w.wires h c.args.node One))) =
    c.count_on.ensures.value
    ∙ ap (λ (k : ℕ). how_many is_inv (notes c.args.block (map seen_message (w.wires k c.args.node One))))
    c.home-own.ensures.value in
    let up : c.count_on-2.result ≡ how_many is_ack (notes c.args.block (map seen_message (w.wires c.args.node h One))) =
    c.count_on-2.ensures.value
    ∙ ap (λ (k : ℕ). how_many is_ack (notes c.args.block (map seen_message (w.wires c.args.node k One))))
    c.home-own.ensures.value in
    ap (λ (n : ℕ). n + c.count_on-2.result) down
    ∙ ap (λ (n : ℕ). how_many is_inv (notes c.args.block (map seen_message (w.wires h c.args.node One))) + n) up
