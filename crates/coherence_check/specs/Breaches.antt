-- Where a state is not coherent, under Stache, Stache_D and Stache_L.
use Rattle.std.specs.Prelude.{◌≡◌, ◌<◌}
use Rattle.dsm_runs.specs.Setups.{Setup}
use Rattle.dsm_runs.specs.Worlds.{World}
use Rattle.coherence_frame.specs.Parts.{Which, Wording, IsFirstBreach, rank}
use Rattle.coherence_inv.specs.Parts as parts
use Rattle.stache_d_inv.specs.Parts as parts_d
use Rattle.stache_l_inv.specs.Parts as parts_l
use Rattle.coherence_reads.specs.Directories.{wording_under}
use Rattle.coherence_check.specs.declared.decide.Broken.{Broken}
use Rattle.stache_check.specs.declared.directory.Directory.{Directory}

-- this fails, and none before it
pub record Firstly (P : Which → Type 0) (k : Which) : Type 0 where
  pub breaks : ¬ P k
  pub before : (j : Which) → rank j < rank k → P j

-- the first part that fails: of the least block, the least
abbrev pub IsBrokenIn : Wording → Setup → World → Broken → Type 0
IsBrokenIn o s g b = (k : Which) × (rank k ≡ b.part) × IsFirstBreach o s g b.block k

abbrev pub IsBrokenUnder : Directory → Setup → World → Broken → Type 0
IsBrokenUnder d = IsBrokenIn (wording_under d)

abbrev pub IsBroken : Setup → World → Broken → Type 0
IsBroken = IsBrokenIn parts.wording

abbrev pub IsBrokenD : Setup → World → Broken → Type 0
IsBrokenD = IsBrokenIn parts_d.wording

abbrev pub IsBrokenL : Setup → World → Broken → Type 0
IsBrokenL = IsBrokenIn parts_l.wording
