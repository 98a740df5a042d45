use Rattle.std.proofs.Common.{◌≡◌, ◌++◌}
use Rattle.std.specs.List.{flat_map, range_with_len}
use Rattle.dsm_model.specs.Globals.{setup_of, world_of}
use Rattle.report_replay.specs.Texts.{wires_from}
use Rattle.report_replay.proofs.wires.add_wires.Given as goal

abbrev pub invariant-loop-number : goal.invariant-loop-number
invariant-loop-number l = l.out ≡ l.initial.out ++ flat_map (wires_from (setup_of l.g).shape.nodes (world_of l.g))
    (range_with_len 0 l.number)
