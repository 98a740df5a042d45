use Rattle.std.proofs.Common.{ℕ, List, ◌++◌, ap, ◌∙◌}
use Rattle.printed_text.proofs.Growing.{range_grown}
use Rattle.dsm_model.specs.Globals.{world_of}
use Rattle.report_replay.specs.Texts.{block_line}
use Rattle.report_replay.proofs.blocks.add_blocks_at.Goals as goal

pub loop-number-preserved : goal.loop-number-preserved
loop-number-preserved c =
    let f : ℕ → List ℕ = block_line c.args.names.now.protocol.now (world_of c.args.g.now) c.args.node in
    let before : List ℕ = c.loop-number.out in
    let at = rw c.unwrap-block.ensures at c.new.ensures in
    range_grown f c.args.out.now before c.add_block.new.out c.loop-number.number c.loop-number.invariant
    (c.in_ok-add_block.ensures ∙ ap (λ (k : ℕ). before ++ f k) at.1)
