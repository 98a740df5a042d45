use Rattle.std.proofs.Common.{ℕ, List, ◌++◌, ap, ◌∙◌}
use Rattle.printed_text.proofs.Growing.{range_grown}
use Rattle.dsm_model.specs.Globals.{setup_of, world_of}
use Rattle.report_replay.specs.Texts.{block_lines}
use Rattle.report_replay.proofs.blocks.add_blocks.Goals as goal

pub loop-number-preserved : goal.loop-number-preserved
loop-number-preserved c =
    let f : ℕ → List ℕ = block_lines c.args.names.now.protocol.now (setup_of c.args.g.now).shape.blocks (world_of c.args.g.now) in
    let before : List ℕ = c.loop-number.out in
    let at = rw c.unwrap-node.ensures at c.new.ensures in
    range_grown f c.args.out.now before c.add_blocks_at.new.out c.loop-number.number c.loop-number.invariant
    (c.in_ok-add_blocks_at.ensures ∙ ap (λ (k : ℕ). before ++ f k) at.1)
