use Rattle.std.proofs.Common.{◌≡◌, drop}
use Rattle.journal.specs.History.{break_from}
use Rattle.journal.proofs.history.first_break.Given as goal

abbrev pub invariant-loop-event : goal.invariant-loop-event
invariant-loop-event l = break_from l.flat l.event (drop l.event l.journal) ≡ break_from l.initial.flat 0 l.journal
