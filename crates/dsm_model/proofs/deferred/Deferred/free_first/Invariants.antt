use Rattle.std.proofs.Common.{◌≡◌, ◌++◌, length, map, take, drop}
use Rattle.dsm_runs.specs.Events.{free}
use Rattle.dsm_model.proofs.deferred.Deferred.free_first.Given as goal

abbrev pub invariant-loop-at : goal.invariant-loop-at
invariant-loop-at l = record {
  size : length l.self ≡ length l.initial.self;
  done : l.self ≡ map (free l.block) (take l.at l.initial.self) ++ drop l.at l.initial.self;
}
