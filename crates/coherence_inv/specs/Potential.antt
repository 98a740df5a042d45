-- How much of a block is still to be done under Stache: the potential that each handler event lowers.
use Rattle.std.specs.Prelude.{ℕ, List}
use Rattle.tw_base.specs.declared.entry.Entry.{Entry}
use Rattle.dsm_runs.specs.Setups.{Setup}
use Rattle.dsm_runs.specs.Worlds.{World}
use Rattle.coherence_frame.specs.Potential as frame
pub use Rattle.coherence_frame.specs.Weights.{at_spot, is_stale_of, price, rest_weight, weigh}
pub use Rattle.coherence_frame.specs.Potential.{faults_in, handled_in, is_fault_event, is_handler_event, sent_in}
use Rattle.coherence_inv.specs.Parts.{wording}

abbrev pub potential : Setup → World → ℕ
potential = frame.potential wording

abbrev pub to_send : Setup → World → ℕ
to_send = frame.to_send wording

-- an event pays for itself
abbrev pub Pays : Setup → World → Entry → World → Type 0
Pays = frame.Pays wording

abbrev pub EventsPay : Type 0
EventsPay = frame.EventsPay wording

abbrev pub IsCounted : Setup → List Entry → World → Type 0
IsCounted = frame.IsCounted wording

abbrev pub RunsAreCounted : Type 0
RunsAreCounted = frame.RunsAreCounted wording
