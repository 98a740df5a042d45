-- Every event keeps coherence beside one flat memory, and so every run is explained by one.
use Rattle.std.proofs.Common.{List}
use Rattle.tw_base.specs.declared.entry.Entry.{Entry}
use Rattle.mini_asm.specs.Run.{Machine}
use Rattle.dsm_runs.specs.Setups.{IsSetup, Setup}
use Rattle.dsm_runs.specs.Worlds.{Runs, World}
use Rattle.coherence_frame.proofs.Keeping as frame
use Rattle.coherence_inv.specs.Laws.{EventsKeep, IsKept, RunsAreExplained, StartsKept}
use Rattle.coherence_inv.proofs.Scheme.{scheme}

pub events_keep : EventsKeep
events_keep = frame.events_keep scheme

pub starts_kept : StartsKept
starts_kept = frame.starts_kept scheme

pub goes_on : (s : Setup) (es : List Entry) (g h : World) (m : Machine) → IsSetup s → IsKept s g m → Runs s g es h →
    frame.GoesOn scheme s m es h
goes_on = frame.goes_on scheme

pub runs_are_explained : RunsAreExplained
runs_are_explained = frame.runs_are_explained scheme
