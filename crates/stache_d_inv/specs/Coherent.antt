-- Coherence under Stache_D: what it says of the home and its caches in words of its own, and the words that it has in common.
use Rattle.std.specs.Prelude.{◌≡◌, ◌≢◌, ℕ, ◌+◌, ◌≤◌, true, false, List, [], ◌∷◌}
use Rattle.tw_base.specs.Lists.{Each}
use Rattle.block_spots.specs.Cases.{State, HomeRw, HomeRo, HomeExcl, HomeAcks, HomePut, CacheRo, CacheRw, CacheWaitRo}
use Rattle.block_spots.specs.Cases.{CacheWaitRw, Rest, NoRest, OfHome, OfLoad, OfRo, OfRw, OfCache, Here, members}
use Rattle.block_spots.specs.Notes.{Note, NRecallRo, NDataRw, NPutRo, Spot, gets_rw, held_ro, held_rw}
use Rattle.block_spots.specs.Sketches.{Layout, Local, Next, Loads, Stores, Sketch}
pub use Rattle.coherence_frame.specs.Words.{AllEligible, AllSentBy, Answers, Apart, Elsewhere, GivesBack, HasWords}
pub use Rattle.coherence_frame.specs.Words.{InHomeRoOrAcks, IsAway, IsCacheNode, IsCacheState, IsFault, IsGet, IsHomeState}
pub use Rattle.coherence_frame.specs.Words.{IsSettled, IsSharer, IsWaiting, NoSharers, OneRequest, Owns, allows_load}
pub use Rattle.coherence_frame.specs.Words.{allows_store, current_in, own_rd, own_wr, owner_has, owner_words, tag_of}
use Rattle.coherence_frame.specs.Coherent as frame
use Rattle.coherence_frame.specs.Coherent.{Standing}

-- ---- how a cache stands, by the home's state

-- the owner that is to keep a copy: once its PUT_RO is on the way it is as a sharer
abbrev pub GivesCopy : State → ℕ → List Note → List Note → Type 0
GivesCopy CacheRw gets (NRecallRo ∷ []) [] = Unit {0}
GivesCopy CacheWaitRw gets (NDataRw ws ∷ NRecallRo ∷ []) [] = Unit {0}
GivesCopy CacheRo gets [] (NPutRo ws ∷ []) = Unit {0}
GivesCopy CacheWaitRw gets [] (NPutRo ws ∷ []) = gets ≡ 1
GivesCopy _ gets _ _ = ⊥

-- a read leaves the owner a copy, a write does not
abbrev pub Recalled : Rest → State → ℕ → ℕ → ℕ → List Note → List Note → Type 0
Recalled OfLoad state ro wr gets down up = GivesCopy state gets down up
Recalled (OfRo a) state ro wr gets down up = GivesCopy state gets down up
Recalled _ state ro wr gets down up = GivesBack state ro wr down up

abbrev pub Stands : State → Here → ℕ → Spot → ℕ → ℕ → Type 0
Stands HomeRw home i s ro wr = Apart s ro wr
Stands HomeRo home i s ro wr =
    (home.sharers i ≡ true → IsSharer s.state (gets_rw s) s.down × (s.up ≡ []))
    × (home.sharers i ≡ false → Apart s ro wr)
Stands HomeAcks home i s ro wr =
    Answers s.state ro wr (gets_rw s) s.down s.up
    × (held_rw home.rest i ≡ 1 → (s.down ≡ []) × (s.up ≡ []))
Stands HomeExcl home i s ro wr =
    (i ≡ home.owner → Owns s.state s.down × (s.up ≡ []))
    × (i ≢ home.owner → Apart s ro wr)
Stands HomePut home i s ro wr =
    (i ≡ home.owner → Recalled home.rest s.state ro wr (gets_rw s) s.down s.up × (held_ro home.rest i + held_rw home.rest i ≡ 0))
    × (i ≢ home.owner → Apart s ro wr)
Stands _ home i s ro wr = ⊥

-- ---- continuations, infos

abbrev pub RestFits : ℕ → ℕ → State → Rest → Type 0
RestFits n h HomeAcks OfHome = Unit {0}
RestFits n h HomeAcks (OfRw a) = IsCacheNode n h a
RestFits n h HomeAcks _ = ⊥
RestFits n h HomePut OfHome = Unit {0}
RestFits n h HomePut OfLoad = Unit {0}
RestFits n h HomePut (OfRo a) = IsCacheNode n h a
RestFits n h HomePut (OfRw a) = IsCacheNode n h a
RestFits n h HomePut _ = ⊥
RestFits n h CacheWaitRo r = r ≡ OfCache
RestFits n h CacheWaitRw r = r ≡ OfCache
RestFits n h _ r = r ≡ NoRest

abbrev pub Infos : ℕ → ℕ → State → Here → Type 0
Infos n h HomeRw home = NoSharers home
Infos n h HomeRo home = ((k : ℕ) → home.sharers k ≡ true → IsCacheNode n h k) × (1 ≤ members n home.sharers)
Infos n h HomeAcks home = NoSharers home × (1 ≤ home.acks)
Infos n h HomeExcl home = NoSharers home × IsCacheNode n h home.owner
Infos n h HomePut home = NoSharers home × IsCacheNode n h home.owner
Infos n h _ home = ⊥

-- ---- words

-- the words of a PUT_RO
abbrev pub HasAnswered : List ℕ → Note → Type 0
HasAnswered ws (NPutRo vs) = vs ≡ ws
HasAnswered ws _ = Unit {0}

-- which words a copy has, at a cache and on the way
pub record HasCopies (home : Here) (s : Spot) : Type 0 where
  pub copies : InHomeRoOrAcks home.state → s.state ≡ CacheRo → s.words ≡ home.words
  pub comes : InHomeRoOrAcks home.state → Each (HasWords home.words) s.down
  pub answers : home.state ≡ HomePut → s.state ≡ CacheRo → Each (HasAnswered s.words) s.up

-- ---- the home's own access

-- what the home's next instruction is while its rest is of its own fault
abbrev pub HeldFor : Rest → Next → ℕ → Type 0
HeldFor OfLoad x b = x ≡ Loads b
HeldFor _ x b = x ≡ Stores b

-- ---- over the sketch

abbrev pub standing : Standing
standing = record { RestFits = RestFits; Infos = Infos; Stands = Stands; Copies = HasCopies; HeldFor = λ st r x b. HeldFor r x b }

abbrev pub AtCache : ℕ → ℕ → Here → ℕ → Spot → Type 0
AtCache = frame.AtCache standing

abbrev pub AtHome : ℕ → ℕ → Here → Spot → Type 0
AtHome = frame.AtHome standing

abbrev pub AtBlock : ℕ → ℕ → List ℕ → Here → (ℕ → Spot) → Type 0
AtBlock = frame.AtBlock standing

abbrev pub AtNode : Layout → Local → ℕ → ℕ → Type 0
AtNode = frame.AtNode standing

abbrev pub Coherent : Layout → (ℕ → List ℕ) → Sketch → Type 0
Coherent = frame.Coherent standing
