-- What coherence says in the same words under every protocol.
use Rattle.std.specs.Prelude.{◌≡◌, ◌≢◌, ℕ, ◌+◌, ◌<◌, ◌≤◌, true, false, List, [], ◌∷◌}
use Rattle.tw_base.specs.Lists.{Each, how_many}
use Rattle.tw_base.specs.declared.message.Chan.{Chan}
use Rattle.tw_base.specs.declared.message.Chan.TheVariants.{Zero}
use Rattle.tw_base.specs.declared.value.Tag.{Tag}
use Rattle.tw_base.specs.declared.value.Tag.TheVariants.{Invalid, ReadOnly, ReadWrite}
use Rattle.block_tags.specs.Copies.{permits}
use Rattle.block_spots.specs.Cases.{State, HomeRw, HomeRo, HomeExcl, HomeAcks, HomePut, CacheInv, CacheRo, CacheRw, CacheWaitRo}
use Rattle.block_spots.specs.Cases.{CacheWaitRw, Here, Message}
use Rattle.block_spots.specs.Notes.{Note, NRdFault, NWrFault, NGetRo, NGetRw, NInv, NAck, NRecall, NDataRo, NDataRw, NPut}
use Rattle.block_spots.specs.Notes.{NPutRo, Spot, Waiting, is_rd_fault, is_wr_fault, kept_notes, notes}
use Rattle.block_spots.specs.Sketches.{Layout, Local, Sketch}

-- ---- what may stand on which wire

abbrev pub IsGet : Note → Type 0
IsGet NGetRo = Unit {0}
IsGet NGetRw = Unit {0}
IsGet _ = ⊥

abbrev pub IsFault : Note → Type 0
IsFault NRdFault = Unit {0}
IsFault NWrFault = Unit {0}
IsFault _ = ⊥

-- exactly one of the four, and none of the other four
abbrev pub OneRequest : State → ℕ → ℕ → ℕ → ℕ → Type 0
OneRequest CacheWaitRo ro data_ro wr data_rw = (ro + data_ro ≡ 1) × (wr + data_rw ≡ 0)
OneRequest CacheWaitRw ro data_ro wr data_rw = (wr + data_rw ≡ 1) × (ro + data_ro ≡ 0)
OneRequest _ ro data_ro wr data_rw = (ro + data_ro ≡ 0) × (wr + data_rw ≡ 0)

-- ---- how a cache stands, by the home's state

-- away: in Cache_Inv, or waiting with its request on the way, deferred or held
abbrev pub IsAway : State → ℕ → ℕ → Type 0
IsAway CacheInv ro wr = Unit {0}
IsAway CacheWaitRo ro wr = ro ≡ 1
IsAway CacheWaitRw ro wr = wr ≡ 1
IsAway _ ro wr = ⊥

-- a sharer, by what stands on channel 1 for it; `gets` are its GET_RWs on the way or deferred
abbrev pub IsSharer : State → ℕ → List Note → Type 0
IsSharer CacheRo gets [] = Unit {0}
IsSharer CacheWaitRo gets (NDataRo ws ∷ []) = Unit {0}
IsSharer CacheWaitRw gets [] = gets ≡ 1
IsSharer _ gets _ = ⊥

-- a cache while the home collects acknowledgements
abbrev pub Answers : State → ℕ → ℕ → ℕ → List Note → List Note → Type 0
Answers state ro wr gets [] [] = IsAway state ro wr
Answers state ro wr gets [] (NAck ∷ []) = IsAway state ro wr
Answers CacheRo ro wr gets (NInv ∷ []) [] = Unit {0}
Answers CacheWaitRw ro wr gets (NInv ∷ []) [] = gets ≡ 1
Answers CacheWaitRo ro wr gets (NDataRo ws ∷ NInv ∷ []) [] = Unit {0}
Answers _ ro wr gets _ _ = ⊥

abbrev pub Owns : State → List Note → Type 0
Owns CacheRw [] = Unit {0}
Owns CacheWaitRw (NDataRw ws ∷ []) = Unit {0}
Owns _ _ = ⊥

abbrev pub GivesBack : State → ℕ → ℕ → List Note → List Note → Type 0
GivesBack CacheRw ro wr (NRecall ∷ []) [] = Unit {0}
GivesBack CacheWaitRw ro wr (NDataRw ws ∷ NRecall ∷ []) [] = Unit {0}
GivesBack state ro wr [] (NPut ws ∷ []) = IsAway state ro wr
GivesBack _ ro wr _ _ = ⊥

-- away, and nothing of the block on channel 1
pub record Apart (s : Spot) (ro wr : ℕ) : Type 0 where
  pub away : IsAway s.state ro wr
  pub down : s.down ≡ []
  pub up : s.up ≡ []

-- ---- states, tags, nodes

abbrev pub tag_of : State → Tag
tag_of HomeRw = ReadWrite
tag_of HomeRo = ReadOnly
tag_of HomeExcl = Invalid
tag_of HomeAcks = ReadOnly
tag_of HomePut = Invalid
tag_of CacheInv = Invalid
tag_of CacheRo = ReadOnly
tag_of CacheRw = ReadWrite
tag_of CacheWaitRo = Invalid
tag_of CacheWaitRw = Invalid

abbrev pub IsCacheState : State → Type 0
IsCacheState CacheInv = Unit {0}
IsCacheState CacheRo = Unit {0}
IsCacheState CacheRw = Unit {0}
IsCacheState CacheWaitRo = Unit {0}
IsCacheState CacheWaitRw = Unit {0}
IsCacheState _ = ⊥

abbrev pub IsHomeState : State → Type 0
IsHomeState HomeRw = Unit {0}
IsHomeState HomeRo = Unit {0}
IsHomeState HomeExcl = Unit {0}
IsHomeState HomeAcks = Unit {0}
IsHomeState HomePut = Unit {0}
IsHomeState _ = ⊥

abbrev pub IsCacheNode : ℕ → ℕ → ℕ → Type 0
IsCacheNode n h a = (a < n) × (a ≢ h)

abbrev pub NoSharers : Here → Type 0
NoSharers home = (k : ℕ) → home.sharers k ≡ false

-- ---- words

abbrev pub HasWords : List ℕ → Note → Type 0
HasWords ws (NDataRo vs) = vs ≡ ws
HasWords ws _ = Unit {0}

abbrev pub InHomeRoOrAcks : State → Type 0
InHomeRoOrAcks HomeRo = Unit {0}
InHomeRoOrAcks HomeAcks = Unit {0}
InHomeRoOrAcks _ = ⊥

-- the words of the owner, at it or on the way
abbrev pub owner_has : State → List ℕ → List Note → List Note → List ℕ
owner_has CacheRw ws down up = ws
owner_has _ ws (NDataRw vs ∷ down) up = vs
owner_has _ ws down (NPut vs ∷ up) = vs
owner_has _ ws down (NPutRo vs ∷ up) = vs
owner_has _ ws down up = ws

abbrev pub owner_words : Spot → List ℕ
owner_words s = owner_has s.state s.words s.down s.up

-- the block's current words, given its owner's spot
abbrev pub current_in : State → List ℕ → Spot → List ℕ
current_in HomeExcl home_words owner = owner_words owner
current_in HomePut home_words owner = owner_words owner
current_in _ home_words owner = home_words

-- ---- one node

abbrev pub allows_load : Tag → Type 0
allows_load t = permits t false ≡ true

abbrev pub allows_store : Tag → Type 0
allows_store t = permits t true ≡ true

abbrev pub IsWaiting : State → Type 0
IsWaiting CacheWaitRo = Unit {0}
IsWaiting CacheWaitRw = Unit {0}
IsWaiting _ = ⊥

abbrev pub own_rd : Local → ℕ → ℕ → ℕ
own_rd l i b = how_many is_rd_fault (kept_notes b i l.deferred)

abbrev pub own_wr : Local → ℕ → ℕ → ℕ
own_wr l i b = how_many is_wr_fault (kept_notes b i l.deferred)

-- ---- messages

-- beyond the wires between the home and its caches, and beyond the home's deferred messages
pub record Elsewhere (s : Layout) (g : Sketch) (b : ℕ) : Type 0 where
  pub between : (f t : ℕ) (c : Chan) → f < s.nodes → t < s.nodes → f ≢ s.home b → t ≢ s.home b → notes b (g.wires f t c) ≡ []
  pub from_home : (t : ℕ) → t < s.nodes → t ≢ s.home b → notes b (g.wires (s.home b) t Zero) ≡ []
  pub deferred : (k j : ℕ) → k < s.nodes → k ≢ s.home b → kept_notes b j (g.locals k).deferred ≡ []
  pub strangers : (j : ℕ) → s.nodes ≤ j → kept_notes b j (g.locals (s.home b)).deferred ≡ []

abbrev pub IsSettled : State → Type 0
IsSettled HomeRw = Unit {0}
IsSettled HomeRo = Unit {0}
IsSettled HomeExcl = Unit {0}
IsSettled _ = ⊥

abbrev pub AllEligible : ℕ → List Waiting → Type 0
AllEligible b ws = Each (λ w. w.message.block ≡ b → w.eligible ≡ true) ws

-- each message names its sender
abbrev pub AllSentBy : ℕ → List Message → Type 0
AllSentBy f ms = Each (λ m. m.from ≡ f) ms
