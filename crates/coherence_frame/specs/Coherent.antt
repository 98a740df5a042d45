-- Coherence over the sketch, for a protocol whose caches and home stand so.
use Rattle.std.specs.Prelude.{◌≡◌, ◌≢◌, ℕ, ◌+◌, ◌<◌, ◌≤◌, true, List, []}
use Rattle.tw_base.specs.Lists.{Each, how_many, sum_below}
use Rattle.tw_base.specs.declared.message.Chan.{Chan}
use Rattle.dsm_runs.specs.declared.mode.Mode.TheVariants as mode
use Rattle.block_spots.specs.Cases.{State, HomeRw, HomeAcks, CacheWaitRo, CacheWaitRw, Rest, Here}
use Rattle.block_spots.specs.Notes.{Spot, gets_ro, gets_rw, held_ro, held_rw, held_home, is_data_ro, is_data_rw, is_rd_fault}
use Rattle.block_spots.specs.Notes.{is_wr_fault, owes}
use Rattle.block_spots.specs.Sketches.{Layout, Local, Next, Loads, Stores, Sketch, home_at, spot_at}
use Rattle.coherence_frame.specs.Words.{AllEligible, AllSentBy, Elsewhere, IsCacheState, IsFault, IsGet, IsSettled, IsWaiting}
use Rattle.coherence_frame.specs.Words.{OneRequest, allows_load, allows_store, current_in, own_rd, own_wr, tag_of}

-- What a protocol says in words of its own, of a block among n nodes with home h.
pub record Standing : Type 1 where
  pub RestFits : ℕ → ℕ → State → Rest → Type 0  -- which continuation a state has
  pub Infos : ℕ → ℕ → State → Here → Type 0  -- the directory, by the home's state
  pub Stands : State → Here → ℕ → Spot → ℕ → ℕ → Type 0  -- cache i by the home's state, with its requests of either kind
  pub Copies : Here → Spot → Type 0  -- which words a copy has, at a cache and on the way
  pub HeldFor : State → Rest → Next → ℕ → Type 0  -- what the home's next instruction is while its rest is of its own fault

-- ---- one cache, the home, the block

pub record AtCache (w : Standing) (n h : ℕ) (home : Here) (i : ℕ) (s : Spot) : Type 0 where
  pub state : IsCacheState s.state
  pub tag : s.tag ≡ tag_of s.state
  pub rest : w.RestFits n h s.state s.rest
  pub asks : Each IsGet s.ask
  pub keeps : Each IsGet s.kept
  pub one : OneRequest s.state (gets_ro s + held_ro home.rest i) (how_many is_data_ro s.down) (gets_rw s + held_rw home.rest i)
      (how_many is_data_rw s.down)
  pub stands : w.Stands home.state home i s (gets_ro s + held_ro home.rest i) (gets_rw s + held_rw home.rest i)
  pub copies : w.Copies home s

pub record AtHome (w : Standing) (n h : ℕ) (home : Here) (s : Spot) : Type 0 where
  pub tag : home.tag ≡ tag_of home.state
  pub rest : w.RestFits n h home.state home.rest
  pub infos : w.Infos n h home.state home
  pub ask : s.ask ≡ []
  pub down : s.down ≡ []
  pub up : s.up ≡ []
  pub faults : Each IsFault s.kept
  pub one : how_many is_rd_fault s.kept + how_many is_wr_fault s.kept + held_home home.rest ≤ 1
  pub none : home.state ≡ HomeRw → s.kept ≡ []

-- `cur` are the words that one flat memory has of the block
pub record AtBlock (w : Standing) (n h : ℕ) (cur : List ℕ) (home : Here) (spots : ℕ → Spot) : Type 0 where
  pub caches : (i : ℕ) → i < n → i ≢ h → AtCache w n h home i (spots i)
  pub at_home : AtHome w n h home (spots h)
  pub acks : home.state ≡ HomeAcks → home.acks ≡ sum_below n (λ j. owes (spots j))
  pub tie : current_in home.state home.words (spots home.owner) ≡ cur

-- ---- one node

pub record AtNode (w : Standing) (s : Layout) (l : Local) (i b : ℕ) : Type 0 where
  pub waits_ro : i ≢ s.home b → (l.blocks b).state ≡ CacheWaitRo → (l.mode ≡ mode.Blocked b) × (l.next ≡ Loads b)
  pub waits_rw : i ≢ s.home b → (l.blocks b).state ≡ CacheWaitRw → (l.mode ≡ mode.Blocked b) × (l.next ≡ Stores b)
  pub blocked : i ≢ s.home b → l.mode ≡ mode.Blocked b → IsWaiting (l.blocks b).state
  pub rd : i ≡ s.home b → 1 ≤ own_rd l i b → (l.mode ≡ mode.Blocked b) × (l.next ≡ Loads b)
  pub wr : i ≡ s.home b → 1 ≤ own_wr l i b → (l.mode ≡ mode.Blocked b) × (l.next ≡ Stores b)
  pub held : i ≡ s.home b → 1 ≤ held_home (l.blocks b).rest →
      (l.mode ≡ mode.Blocked b) × w.HeldFor (l.blocks b).state (l.blocks b).rest l.next b
  pub blocked_home : i ≡ s.home b → l.mode ≡ mode.Blocked b → own_rd l i b + own_wr l i b + held_home (l.blocks b).rest ≡ 1
  pub woken_loads : l.mode ≡ mode.Woken → l.may ≡ true → l.next ≡ Loads b → allows_load (l.blocks b).tag
  pub woken_stores : l.mode ≡ mode.Woken → l.may ≡ true → l.next ≡ Stores b → allows_store (l.blocks b).tag

-- ---- all of a sketch, over one flat memory

pub record Coherent (w : Standing) (s : Layout) (flat : ℕ → List ℕ) (g : Sketch) : Type 0 where
  pub homes : (b : ℕ) → s.home b < s.nodes
  pub block : (b : ℕ) → b < s.blocks → AtBlock w s.nodes (s.home b) (flat b) (home_at g b (s.home b)) (spot_at g b (s.home b))
  pub elsewhere : (b : ℕ) → b < s.blocks → Elsewhere s g b
  pub node : (i b : ℕ) → i < s.nodes → b < s.blocks → AtNode w s (g.locals i) i b
  pub settled : (b : ℕ) → b < s.blocks → IsSettled (home_at g b (s.home b)).state → AllEligible b (g.locals (s.home b)).deferred
  pub sent : (f t : ℕ) (c : Chan) → AllSentBy f (g.wires f t c)
