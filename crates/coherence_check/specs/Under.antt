-- A state and the parts of coherence, by the protocol under which it is read.
use Rattle.std.specs.Prelude.{ℕ}
use Rattle.teapot_meaning.specs.declared.state.Here.{Here as Place}
use Rattle.dsm_runs.specs.Setups.{Setup, home_of}
use Rattle.dsm_runs.specs.Worlds.{World}
use Rattle.block_spots.specs.Cases.{Here}
use Rattle.block_spots.specs.Notes.{Spot}
use Rattle.block_spots.specs.Sketches.{Layout, Local, Sketch, home_at, spot_at}
use Rattle.block_spots.specs.Views.{sketch}
use Rattle.coherence_frame.specs.Coherent.{AtNode}
use Rattle.coherence_frame.specs.Parts as frame
use Rattle.coherence_frame.specs.Parts.{Which}
use Rattle.block_reads.specs.Tables.{reads_under}
use Rattle.coherence_reads.specs.Directories.{wording_under}
use Rattle.stache_check.specs.declared.directory.Directory.{Directory}

abbrev pub seen_under : Directory → Setup → World → Sketch
seen_under d s g = sketch (reads_under d) s g

abbrev pub home_under : Directory → Setup → World → ℕ → Here
home_under d s g b = home_at (seen_under d s g) b (home_of s b)

abbrev pub spots_under : Directory → Setup → World → ℕ → ℕ → Spot
spots_under d s g b = spot_at (seen_under d s g) b (home_of s b)

-- a block at a node is one of the protocol's, its continuation whole, line numbers aside
abbrev pub IsPlacedUnder : Directory → Place → Type 0
IsPlacedUnder d = (wording_under d).IsPlaced

abbrev pub AtNodeUnder : Directory → Layout → Local → ℕ → ℕ → Type 0
AtNodeUnder d = AtNode (wording_under d).standing

abbrev pub PartUnder : Directory → Setup → World → ℕ → Which → Type 0
PartUnder d = frame.Part (wording_under d)

-- block b is coherent
abbrev pub InPartsUnder : Directory → Setup → World → ℕ → Type 0
InPartsUnder d = frame.InParts (wording_under d)

abbrev pub IsCoherentUnder : Directory → Setup → World → Type 0
IsCoherentUnder d = frame.IsCoherent (wording_under d)
