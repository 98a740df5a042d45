-- What is proved of coherence under Stache: each event keeps it, beside one flat memory.
use Rattle.std.specs.Prelude.{List}
use Rattle.tw_base.specs.declared.entry.Entry.{Entry}
use Rattle.mini_asm.specs.Run.{Machine}
use Rattle.dsm_runs.specs.Setups.{Setup}
use Rattle.dsm_runs.specs.Worlds.{World}
use Rattle.coherence_frame.specs.Laws as frame
pub use Rattle.coherence_frame.specs.Laws.{HasReader, NoneInFlight}
use Rattle.coherence_inv.specs.Parts.{wording}

-- the flat machine's words are the current ones, and its processors the nodes'
abbrev pub IsTied : Setup → World → Machine → Type 0
IsTied = frame.IsTied wording

-- what stands in every state of a run under Stache, beside a flat machine
abbrev pub IsKept : Setup → World → Machine → Type 0
IsKept = frame.IsKept wording

-- an event keeps it: what it read was due, and the flat machine does the same
abbrev pub KeepsOn : Setup → Machine → Entry → World → Type 0
KeepsOn = frame.KeepsOn wording

abbrev pub StartsKept : Type 0
StartsKept = frame.StartsKept wording

abbrev pub EventsKeep : Type 0
EventsKeep = frame.EventsKeep wording

-- a run, and the flat machine that explains it
abbrev pub Explained : Setup → List Entry → World → Type 0
Explained = frame.Explained wording

abbrev pub RunsAreExplained : Type 0
RunsAreExplained = frame.RunsAreExplained wording

-- what a tag lets a node read is the flat machine's word
abbrev pub CopiesAreCurrent : Type 0
CopiesAreCurrent = frame.CopiesAreCurrent wording

-- where no message is in flight some node may read each block
abbrev pub BlocksHaveReaders : Type 0
BlocksHaveReaders = frame.BlocksHaveReaders wording
