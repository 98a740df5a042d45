use Rattle.std.proofs.Common.{◌≡◌}
use Rattle.std.specs.List.{filter}
use Rattle.dsm_runs.specs.Schedules.{events_below}
use Rattle.dsm_runs.specs.Tests.{is_enabled}
use Rattle.dsm_model.specs.Globals.{setup_of, world_of}
use Rattle.dsm_model.proofs.schedule.enabled_events.Given as goal

abbrev pub invariant-loop-number : goal.invariant-loop-number
invariant-loop-number l = l.some ≡ filter (is_enabled (setup_of l.g) (world_of l.g))
    (events_below (setup_of l.g).shape.nodes l.number)
