use Rattle.std.proofs.Common.{◌≡◌, ◌++◌, take}
use Rattle.std.specs.List.{flat_map, enumerate_from}
use Rattle.journal.specs.Reports.{event_line}
use Rattle.journal.proofs.events.add_events.Given as goal

abbrev pub invariant-loop-event : goal.invariant-loop-event
invariant-loop-event l = l.out ≡ l.initial.out ++ flat_map (event_line l.names.protocol.now)
    (enumerate_from 0 (take l.event l.journal))
