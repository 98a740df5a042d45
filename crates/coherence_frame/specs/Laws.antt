-- What is proved of coherence: each event keeps it, beside one flat memory.
use Rattle.std.specs.Prelude.{◌≡◌, ℕ, ◌<◌, true, false, slice_index, List, []}
use Rattle.tw_base.specs.declared.entry.Entry.{Entry}
use Rattle.tw_base.specs.declared.message.Chan.{Chan}
use Rattle.block_tags.specs.Copies.{block_slice, permits}
use Rattle.mini_asm.specs.Run.{Machine}
use Rattle.dsm_runs.specs.Flat.{Follows, FlatGoesOn, IsBeside, IsDue, flat_start}
use Rattle.dsm_runs.specs.Events.{tag_here, word_here}
use Rattle.dsm_runs.specs.Invariants.{IsRunState}
use Rattle.dsm_runs.specs.Setups.{IsSetup, Setup, size_of}
use Rattle.dsm_runs.specs.Worlds.{Runs, Step, World, start}
use Rattle.coherence_frame.specs.Parts.{IsCoherent, IsTreeOf, Wording, current}

-- the flat machine's words are the current o ones, and its processors the nodes'
pub record IsTied (o : Wording) (s : Setup) (g : World) (m : Machine) : Type 0 where
  pub words : (b : ℕ) → b < s.shape.blocks → current o s g b ≡ block_slice s.shape.words m.words b
  pub beside : IsBeside s g m

-- what stands in every state of a run of the protocol, beside a flat machine
pub record IsKept (o : Wording) (s : Setup) (g : World) (m : Machine) : Type 0 where
  pub state : IsRunState s g
  pub coherent : IsCoherent o s g
  pub tied : IsTied o s g m

-- an event keeps it: what it read was due, and the flat machine does the same
pub record KeepsOn (o : Wording) (s : Setup) (m : Machine) (e : Entry) (h : World) : Type 0 where
  pub due : IsDue e.act m.words
  pub goes : FlatGoesOn s m e h
  pub kept : IsKept o s h goes.next

abbrev pub StartsKept : Wording → Type 0
StartsKept o = (s : Setup) → IsSetup s → IsTreeOf o s.protocol → IsKept o s (start s) (flat_start s)

abbrev pub EventsKeep : Wording → Type 0
EventsKeep o =
    (s : Setup) (g : World) (e : Entry) (h : World) (m : Machine) → IsSetup s → IsKept o s g m → Step s g e h → KeepsOn o s m e h

-- a run, and the flat machine that explains it
pub record Explained (o : Wording) (s : Setup) (j : List Entry) (g : World) : Type 0 where
  pub flat : Machine
  pub follows : Follows (flat_start s) j flat
  pub kept : IsKept o s g flat

abbrev pub RunsAreExplained : Wording → Type 0
RunsAreExplained o =
    (s : Setup) (j : List Entry) (g : World) → IsSetup s → IsTreeOf o s.protocol → Runs s (start s) j g → Explained o s j g

-- ---- words at the end

-- what a tag lets a node read is the flat machine's word
abbrev pub CopiesAreCurrent : Wording → Type 0
CopiesAreCurrent o =
    (s : Setup) (g : World) (m : Machine) (i address : ℕ) → IsSetup s → IsKept o s g m → i < s.shape.nodes → address < size_of s →
    permits (tag_here s (g.locals i).blocks address) false ≡ true →
    word_here s (g.locals i).blocks address ≡ slice_index m.words address

abbrev pub NoneInFlight : Setup → World → Type 0
NoneInFlight s g = (f t : ℕ) (c : Chan) → f < s.shape.nodes → t < s.shape.nodes → g.wires f t c ≡ []

-- where no message is in flight some node may read each block
pub record HasReader (s : Setup) (g : World) (b : ℕ) : Type 0 where
  pub node : ℕ
  pub within : node < s.shape.nodes
  pub may : permits ((g.locals node).blocks b).tag false ≡ true

abbrev pub BlocksHaveReaders : Wording → Type 0
BlocksHaveReaders o =
    (s : Setup) (g : World) (m : Machine) (b : ℕ) → IsSetup s → IsKept o s g m → NoneInFlight s g → b < s.shape.blocks →
    HasReader s g b
