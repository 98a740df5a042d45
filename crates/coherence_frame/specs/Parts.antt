-- Coherence of a state in seven parts, block by block.
use Rattle.std.specs.Prelude.{◌≡◌, ◌≢◌, ℕ, ◌+◌, ◌<◌, ◌≤◌, [], List, None}
use Rattle.tw_base.specs.Lists.{Each, how_many, sum_below}
use Rattle.teapot_tree.specs.Bare.{bare_protocol}
use Rattle.teapot_tree.specs.declared.protocol.Protocol.{Protocol}
use Rattle.teapot_meaning.specs.declared.state.Here.{Here as Place}
use Rattle.dsm_runs.specs.Setups.{Setup, home_of}
use Rattle.dsm_runs.specs.Worlds.{World}
use Rattle.block_spots.specs.Cases.{HomeRw, HomeAcks, Here}
use Rattle.block_spots.specs.Notes.{Note, Spot, gets_ro, gets_rw, held_home, held_ro, held_rw, is_data_ro, is_data_rw}
use Rattle.block_spots.specs.Notes.{is_rd_fault, is_wr_fault, owes}
use Rattle.block_spots.specs.Sketches.{Sketch, home_at, spot_at}
use Rattle.block_spots.specs.Views.{Reads, layout, sketch}
use Rattle.coherence_frame.specs.Words.{AllEligible, Elsewhere, IsCacheState, IsFault, IsGet, IsHomeState, IsSettled}
use Rattle.coherence_frame.specs.Words.{OneRequest, current_in, tag_of}
use Rattle.coherence_frame.specs.Coherent.{AtNode, Standing}

-- What a protocol says of a state of the model in words of its own.
pub record Wording : Type 1 where
  pub standing : Standing
  pub tree : Protocol  -- as it is written, each line 0
  pub reads : Reads  -- how its continuations are told apart
  pub IsPlaced : Place → Type 0  -- a block at a node is one of the protocol's, its continuation whole
  pub IsDown : ℕ → Note → Type 0  -- a message from the home to a cache on channel 1, its data of so many words
  pub IsUp : ℕ → Note → Type 0  -- and one from a cache to the home
  pub Copies : ℕ → ℕ → Here → (ℕ → Spot) → Type 0  -- which words the copies of a block have, among n nodes with home h

-- this is the protocol, line numbers aside
abbrev pub IsTreeOf : Wording → Protocol → Type 0
IsTreeOf o p = bare_protocol p ≡ o.tree

-- for each cache of the block
abbrev pub EachCache : ℕ → ℕ → (ℕ → Type 0) → Type 0
EachCache n h P = (i : ℕ) → i < n → i ≢ h → P i

-- 1: the protocol, failures, states and tags
pub record StatesAndTags (o : Wording) (s : Setup) (g : World) (n h : ℕ) (home : Here) (spots : ℕ → Spot) : Type 0 where
  pub stache : IsTreeOf o s.protocol  -- named after the first protocol that was so proved
  pub unfailed : (i : ℕ) → i < n → (g.locals i).failed ≡ None
  pub home_state : IsHomeState home.state
  pub home_tag : home.tag ≡ tag_of home.state
  pub caches : EachCache n h (λ i. IsCacheState (spots i).state × ((spots i).tag ≡ tag_of (spots i).state))

-- 2: the continuations
pub record Continuations (o : Wording) (g : World) (b n h : ℕ) (home : Here) (spots : ℕ → Spot) : Type 0 where
  pub placed : (i : ℕ) → i < n → o.IsPlaced ((g.locals i).blocks b)
  pub of_home : o.standing.RestFits n h home.state home.rest
  pub of_caches : EachCache n h (λ i. o.standing.RestFits n h (spots i).state (spots i).rest)

-- 3: what is on the way and deferred, and where
pub record Places (o : Wording) (w n h : ℕ) (spots : ℕ → Spot) : Type 0 where
  pub caches : EachCache n h (λ i. Each IsGet (spots i).ask × Each IsGet (spots i).kept × Each (o.IsDown w) (spots i).down
      × Each (o.IsUp w) (spots i).up)
  pub own : ((spots h).ask ≡ []) × ((spots h).down ≡ []) × ((spots h).up ≡ []) × Each IsFault (spots h).kept

-- 4: one request for each cache that waits, one fault of the home
pub record Requests (n h : ℕ) (home : Here) (spots : ℕ → Spot) : Type 0 where
  pub caches : EachCache n h (λ i. OneRequest (spots i).state (gets_ro (spots i) + held_ro home.rest i)
      (how_many is_data_ro (spots i).down) (gets_rw (spots i) + held_rw home.rest i) (how_many is_data_rw (spots i).down))
  pub own : how_many is_rd_fault (spots h).kept + how_many is_wr_fault (spots h).kept + held_home home.rest ≤ 1
  pub none : home.state ≡ HomeRw → (spots h).kept ≡ []

-- 5: the row of the home's state
pub record Rows (o : Wording) (n h : ℕ) (home : Here) (spots : ℕ → Spot) : Type 0 where
  pub infos : o.standing.Infos n h home.state home
  pub caches : EachCache n h (λ i. o.standing.Stands home.state home i (spots i) (gets_ro (spots i) + held_ro home.rest i)
      (gets_rw (spots i) + held_rw home.rest i))
  pub acks : home.state ≡ HomeAcks → home.acks ≡ sum_below n (λ j. owes (spots j))

-- ---- the parts of block b in state g

abbrev pub seen : Wording → Setup → World → Sketch
seen o s g = sketch o.reads s g

abbrev pub home_seen : Wording → Setup → World → ℕ → Here
home_seen o s g b = home_at (seen o s g) b (home_of s b)

abbrev pub spots_seen : Wording → Setup → World → ℕ → ℕ → Spot
spots_seen o s g b = spot_at (seen o s g) b (home_of s b)

-- the parts, in their order
pub data Which : Type 0 where
  First Second Third Fourth Fifth Sixth Seventh : Which

abbrev pub rank : Which → ℕ
rank First = 1
rank Second = 2
rank Third = 3
rank Fourth = 4
rank Fifth = 5
rank Sixth = 6
rank Seventh = 7

abbrev pub Part : Wording → Setup → World → ℕ → Which → Type 0
Part o s g b First = StatesAndTags o s g s.shape.nodes (home_of s b) (home_seen o s g b) (spots_seen o s g b)
Part o s g b Second = Continuations o g b s.shape.nodes (home_of s b) (home_seen o s g b) (spots_seen o s g b)
Part o s g b Third = Places o s.shape.words s.shape.nodes (home_of s b) (spots_seen o s g b) × Elsewhere (layout s) (seen o s g) b
Part o s g b Fourth =
    Requests s.shape.nodes (home_of s b) (home_seen o s g b) (spots_seen o s g b)
    × ((i : ℕ) → i < s.shape.nodes → AtNode o.standing (layout s) ((seen o s g).locals i) i b)
Part o s g b Fifth = Rows o s.shape.nodes (home_of s b) (home_seen o s g b) (spots_seen o s g b)
Part o s g b Sixth = o.Copies s.shape.nodes (home_of s b) (home_seen o s g b) (spots_seen o s g b)
Part o s g b Seventh = IsSettled (home_seen o s g b).state → AllEligible b ((seen o s g).locals (home_of s b)).deferred

-- block b is coherent
abbrev pub InParts : Wording → Setup → World → ℕ → Type 0
InParts o s g b = (k : Which) → Part o s g b k

abbrev pub IsCoherent : Wording → Setup → World → Type 0
IsCoherent o s g = (b : ℕ) → b < s.shape.blocks → InParts o s g b

-- the first part that fails: of the least block, the least
pub record IsFirstBreach (o : Wording) (s : Setup) (g : World) (b : ℕ) (k : Which) : Type 0 where
  pub within : b < s.shape.blocks
  pub breaks : ¬ Part o s g b k
  pub before : (j : Which) → rank j < rank k → Part o s g b j
  pub blocks : (c : ℕ) → c < b → InParts o s g c

-- the words that are current
abbrev pub current : Wording → Setup → World → ℕ → List ℕ
current o s g b = current_in (home_seen o s g b).state (home_seen o s g b).words (spots_seen o s g b (home_seen o s g b).owner)
