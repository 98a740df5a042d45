use Rattle.std.proofs.Common.{◌≡◌, length}
use Rattle.dsm_runs.specs.Begun.{HasBegun}
use Rattle.dsm_model.specs.Globals.{setup_of, world_of}
use Rattle.dsm_model.proofs.schedule.settle.Given as goal

abbrev pub invariant-loop-turn : goal.invariant-loop-turn
invariant-loop-turn l = record {
  setup : setup_of l.g ≡ setup_of l.initial.g;
  count : length l.entries ≡ l.turn;
  begun : HasBegun (setup_of l.initial.g) l.stride 0 (world_of l.initial.g) l.entries (world_of l.g);
}
