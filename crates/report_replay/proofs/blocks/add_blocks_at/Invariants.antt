use Rattle.std.proofs.Common.{◌≡◌, ◌++◌}
use Rattle.std.specs.List.{flat_map, range_with_len}
use Rattle.dsm_model.specs.Globals.{world_of}
use Rattle.report_replay.specs.Texts.{block_line}
use Rattle.report_replay.proofs.blocks.add_blocks_at.Given as goal

abbrev pub invariant-loop-number : goal.invariant-loop-number
invariant-loop-number l = l.out ≡ l.initial.out ++ flat_map (block_line l.names.protocol.now (world_of l.g) l.node)
    (range_with_len 0 l.number)
