-- A run pays for itself, event by event.
use Rattle.coherence_frame.proofs.Counted as counted
use Rattle.coherence_frame.proofs.Seen as frame
use Rattle.stache_d_inv.specs.Potential.{EventsPay, RunsAreCounted}
use Rattle.stache_d_inv.proofs.Scheme.{scheme}

pub events_pay : EventsPay
events_pay = frame.events_pay scheme

pub runs_are_counted : RunsAreCounted
runs_are_counted = counted.runs_are_counted scheme
