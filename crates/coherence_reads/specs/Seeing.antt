-- What the decider reads off a cache, and off the home about it.
use Rattle.std.specs.Prelude.{◌≡◌, ◌+◌, ◌≤◌, ℕ, List, []}
use Rattle.std.specs.Bool.{Decides}
use Rattle.tw_base.specs.Lists.{Each, how_many}
use Rattle.tw_base.specs.NodeSets.{has}
use Rattle.block_spots.specs.Cases.{CacheRo, Here, HomeRw}
use Rattle.block_spots.specs.Notes.{Spot, gets_ro, gets_rw, held_home, held_ro, held_rw, is_data_ro, is_data_rw, is_rd_fault}
use Rattle.block_spots.specs.Notes.{is_wr_fault}
use Rattle.coherence_inv.specs.Coherent.{HasWords, InHomeRoOrAcks, IsCacheState, IsFault, IsGet, OneRequest, tag_of}
use Rattle.coherence_inv.specs.Parts.{Which, First, Second, Third, Fourth, Fifth, Sixth, Seventh}
use Rattle.note_reads.specs.Counts.{IsCount}
use Rattle.coherence_reads.specs.Directories.{AnsweredUnder, IsDownUnder, IsUpUnder, RestFitsUnder, StandsUnder}
use Rattle.note_reads.specs.Notes.{IsFew, IsSummary}
use Rattle.block_reads.specs.Whose.{rest_in, state_in}
use Rattle.stache_check.specs.declared.directory.Directory.{Directory}
use Rattle.coherence_reads.specs.declared.part.Part.{Part}
use Rattle.coherence_reads.specs.declared.part.Part.TheVariants as p
use Rattle.coherence_reads.specs.declared.standing.Seen.{Seen}
use Rattle.coherence_reads.specs.declared.standing.OfHome.{OfHome}
use Rattle.coherence_reads.specs.declared.views.Home.{Home}
use Rattle.coherence_reads.specs.declared.views.Spot.{Spot as At}

-- a cache, with so many requests in all
pub record IsSeen (x : Seen) (s : Spot) (n k : ℕ) : Type 0 where
  pub state : s.state ≡ state_in x.place
  pub gets : IsCount x.gets (gets_rw s)
  pub ro : IsCount x.ro n
  pub wr : IsCount x.wr k
  pub down : IsFew x.down s.down
  pub up : IsFew x.up s.up

-- what the home has of cache i: whether it is a sharer, whether the owner, its requests that are held, and what the home waits
-- for
pub record IsOfHome (x : OfHome) (home : Here) (i : ℕ) : Type 0 where
  pub shares : home.sharers i ≡ x.member
  pub owns : Decides x.owner (i ≡ home.owner)
  pub reads : IsCount x.held_ro (held_ro home.rest i)
  pub writes : IsCount x.held_rw (held_rw home.rest i)
  pub rest : home.rest ≡ rest_in x.whose

-- the block at its home
abbrev pub here_in : Home → Here
here_in x = record {
  state = state_in x.place;
  rest = rest_in x.whose;
  sharers = has x.sharers;
  owner = x.owner;
  acks = x.acks;
  tag = x.tag;
  words = x.words;
}

-- the block at a node, where a block has w words and its home these; what it answers is compared with its own
pub record IsSpot (w : ℕ) (home : List ℕ) (x : At) (s : Spot) : Type 0 where
  pub state : s.state ≡ state_in x.place
  pub rest : s.rest ≡ rest_in x.whose
  pub tag : s.tag ≡ x.tag
  pub words : s.words ≡ x.words
  pub ask : IsSummary w home x.ask s.ask
  pub kept : IsSummary w home x.kept s.kept
  pub down : IsSummary w home x.down s.down
  pub up : IsSummary w x.words x.up s.up

-- what a part of coherence asks of a cache: the block has w words, n nodes, this home node and this home
abbrev pub CacheFits : Directory → Which → ℕ → ℕ → ℕ → Here → ℕ → Spot → Type 0
CacheFits d First w n h home i s = IsCacheState s.state × (s.tag ≡ tag_of s.state)
CacheFits d Second w n h home i s = RestFitsUnder d n h s.state s.rest
CacheFits d Third w n h home i s = Each IsGet s.ask × Each IsGet s.kept × Each (IsDownUnder d w) s.down
    × Each (IsUpUnder d w) s.up
CacheFits d Fourth w n h home i s = OneRequest s.state (gets_ro s + held_ro home.rest i) (how_many is_data_ro s.down)
    (gets_rw s + held_rw home.rest i) (how_many is_data_rw s.down)
CacheFits d Fifth w n h home i s = StandsUnder d home.state home i s (gets_ro s + held_ro home.rest i)
    (gets_rw s + held_rw home.rest i)
CacheFits d Sixth w n h home i s =
    (InHomeRoOrAcks home.state → s.state ≡ CacheRo → s.words ≡ home.words)
    × (InHomeRoOrAcks home.state → Each (HasWords home.words) s.down)
    × AnsweredUnder d home s
CacheFits d Seventh w n h home i s = Unit {0}

-- what part 3 and part 4 ask of the home's own spot
abbrev pub OwnPlaces : Spot → Type 0
OwnPlaces s = (s.ask ≡ []) × (s.down ≡ []) × (s.up ≡ []) × Each IsFault s.kept

abbrev pub OwnRequests : Here → Spot → Type 0
OwnRequests home s =
    (how_many is_rd_fault s.kept + how_many is_wr_fault s.kept + held_home home.rest ≤ 1)
    × (home.state ≡ HomeRw → s.kept ≡ [])

abbrev pub which : Part → Which
which p.First = First
which p.Second = Second
which p.Third = Third
which p.Fourth = Fourth
which p.Fifth = Fifth
which p.Sixth = Sixth
which p.Seventh = Seventh
