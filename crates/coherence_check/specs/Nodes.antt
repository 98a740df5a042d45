-- What the parts of coherence ask of one node.
use Rattle.std.specs.Prelude.{◌≡◌, ◌≢◌, ℕ, ◌<◌, [], None}
use Rattle.tw_base.specs.declared.message.Chan.TheVariants.{Zero, One}
use Rattle.dsm_runs.specs.Setups.{Setup, home_of}
use Rattle.dsm_runs.specs.Worlds.{World}
use Rattle.block_spots.specs.Notes.{kept_notes, notes}
use Rattle.block_spots.specs.Views.{layout}
use Rattle.coherence_inv.specs.Parts.{Which, First, Second, Third, Fourth, seen}
use Rattle.coherence_reads.specs.Seeing.{CacheFits}
use Rattle.coherence_check.specs.Under.{AtNodeUnder, IsPlacedUnder, home_under, seen_under, spots_under}
use Rattle.stache_check.specs.declared.directory.Directory.{Directory}

-- cache i of block b is as the part asks
abbrev pub CacheAt : Directory → Which → Setup → World → ℕ → ℕ → Type 0
CacheAt d k s g b i = CacheFits d k s.shape.words s.shape.nodes (home_of s b) (home_under d s g b) i (spots_under d s g b i)

-- node f sends node t nothing of b; what is on the wires and deferred is seen alike under each protocol
abbrev pub SendsNone : Setup → World → ℕ → ℕ → ℕ → Type 0
SendsNone s g b f t = (notes b ((seen s g).wires f t Zero) ≡ []) × (notes b ((seen s g).wires f t One) ≡ [])

-- beyond the wires between the home and its caches, and beyond the home's deferred messages, node f has nothing of b
abbrev pub HasNone : Setup → World → ℕ → ℕ → Type 0
HasNone s g b f =
    ((t : ℕ) → t < s.shape.nodes → t ≢ home_of s b → SendsNone s g b f t)
    × (notes b ((seen s g).wires (home_of s b) f Zero) ≡ [])
    × ((j : ℕ) → kept_notes b j ((seen s g).locals f).deferred ≡ [])

-- node i is as the part asks of each node
abbrev pub NodeAt : Directory → Which → Setup → World → ℕ → ℕ → Type 0
NodeAt d First s g b i = (g.locals i).failed ≡ None
NodeAt d Second s g b i = IsPlacedUnder d ((g.locals i).blocks b)
NodeAt d Third s g b i = i ≢ home_of s b → HasNone s g b i
NodeAt d Fourth s g b i = AtNodeUnder d (layout s) ((seen_under d s g).locals i) i b
NodeAt d _ s g b i = Unit {0}
