-- Coherence of a state under Stache_D in seven parts, block by block: what is said in words of its own, and the parts.
use Rattle.std.specs.Prelude.{◌≡◌, ℕ, length, List}
use Rattle.tw_base.specs.Lists.{Each}
use Rattle.teapot_meaning.specs.declared.state.Here.{Here as Place}
use Rattle.dsm_runs.specs.Setups.{Setup}
use Rattle.dsm_runs.specs.Worlds.{World}
use Rattle.block_spots.specs.Cases.{HomePut, CacheRo, Here}
use Rattle.block_spots.specs.Notes.{Note, NInv, NAck, NRecall, NRecallRo, NDataRo, NDataRw, NPut, NPutRo, Spot}
use Rattle.block_spots.specs.Sketches.{Sketch}
use Rattle.stache_d_tree.specs.Tree.{stache_d}
use Rattle.stache_table.specs.Blocks.{LeftFits}
use Rattle.stache_d_table.specs.Blocks.{IsLiteral, read, reads}
use Rattle.stache_d_inv.specs.Coherent.{HasAnswered, HasWords, InHomeRoOrAcks, standing}
use Rattle.coherence_frame.specs.Parts as frame
use Rattle.coherence_frame.specs.Parts.{Wording}
pub use Rattle.coherence_frame.specs.Parts.{EachCache, Fifth, First, Fourth, Requests, Second, Seventh, Sixth, Third, Which, rank}

-- a message from the home to a cache, and one from a cache to the home, on channel 1; data has w words
abbrev pub IsDown : ℕ → Note → Type 0
IsDown w (NDataRo ws) = length ws ≡ w
IsDown w (NDataRw ws) = length ws ≡ w
IsDown w NInv = Unit {0}
IsDown w NRecall = Unit {0}
IsDown w NRecallRo = Unit {0}
IsDown w _ = ⊥

abbrev pub IsUp : ℕ → Note → Type 0
IsUp w (NPut ws) = length ws ≡ w
IsUp w (NPutRo ws) = length ws ≡ w
IsUp w NAck = Unit {0}
IsUp w _ = ⊥

-- a block at a node is one of the protocol's, its continuation whole, line numbers aside
pub record IsPlaced (here : Place) : Type 0 where
  pub literal : IsLiteral here
  pub left : LeftFits (read here).state (read here).left
  pub eight : length (read here).set ≡ 8  -- as every set of nodes in the program

-- 6: copies have the home's words, and the words of an owner's copy are those that it answered
pub record Copies (n h : ℕ) (home : Here) (spots : ℕ → Spot) : Type 0 where
  pub held : EachCache n h (λ i. InHomeRoOrAcks home.state → (spots i).state ≡ CacheRo → (spots i).words ≡ home.words)
  pub coming : EachCache n h (λ i. InHomeRoOrAcks home.state → Each (HasWords home.words) (spots i).down)
  pub answered : EachCache n h (λ i. home.state ≡ HomePut → (spots i).state ≡ CacheRo →
      Each (HasAnswered (spots i).words) (spots i).up)

abbrev pub wording : Wording
wording = record {
  standing = standing;
  tree = stache_d;
  reads = reads;
  IsPlaced = IsPlaced;
  IsDown = IsDown;
  IsUp = IsUp;
  Copies = Copies;
}

-- ---- the parts of block b in state g

abbrev pub seen : Setup → World → Sketch
seen = frame.seen wording

abbrev pub home_seen : Setup → World → ℕ → Here
home_seen = frame.home_seen wording

abbrev pub spots_seen : Setup → World → ℕ → ℕ → Spot
spots_seen = frame.spots_seen wording

abbrev pub StatesAndTags : Setup → World → ℕ → ℕ → Here → (ℕ → Spot) → Type 0
StatesAndTags = frame.StatesAndTags wording

abbrev pub Continuations : World → ℕ → ℕ → ℕ → Here → (ℕ → Spot) → Type 0
Continuations = frame.Continuations wording

abbrev pub Places : ℕ → ℕ → ℕ → (ℕ → Spot) → Type 0
Places = frame.Places wording

abbrev pub Rows : ℕ → ℕ → Here → (ℕ → Spot) → Type 0
Rows = frame.Rows wording

abbrev pub Part : Setup → World → ℕ → Which → Type 0
Part = frame.Part wording

-- block b is coherent
abbrev pub InParts : Setup → World → ℕ → Type 0
InParts = frame.InParts wording

abbrev pub IsCoherent : Setup → World → Type 0
IsCoherent = frame.IsCoherent wording

-- the first part that fails: of the least block, the least
abbrev pub IsFirstBreach : Setup → World → ℕ → Which → Type 0
IsFirstBreach = frame.IsFirstBreach wording

-- the words that are current
abbrev pub current : Setup → World → ℕ → List ℕ
current = frame.current wording
