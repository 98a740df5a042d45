-- Coherence under Stache_L: what it says of the home and its caches in words of its own, and the words that it has in common.
-- At most two caches hold a block read-only.
use Rattle.std.specs.Prelude.{Bool, ◌≡◌, ◌≢◌, ℕ, ◌+◌, ◌≤◌, true, false, List, []}
use Rattle.block_spots.specs.Cases.{State, HomeRw, HomeRo, HomeExcl, HomeAcks, HomePut, CacheWaitRo, CacheWaitRw, Rest, NoRest}
use Rattle.block_spots.specs.Cases.{OfHome, OfRo, OfRw, OfCache, Here, members}
use Rattle.block_spots.specs.Notes.{Spot, gets_rw, held_ro, held_rw}
use Rattle.block_spots.specs.Sketches.{Layout, Local, Sketch}
pub use Rattle.coherence_frame.specs.Words.{AllEligible, AllSentBy, Answers, Apart, Elsewhere, GivesBack, HasWords}
pub use Rattle.coherence_frame.specs.Words.{InHomeRoOrAcks, IsAway, IsCacheNode, IsCacheState, IsFault, IsGet, IsHomeState}
pub use Rattle.coherence_frame.specs.Words.{IsSettled, IsSharer, IsWaiting, NoSharers, OneRequest, Owns, allows_load}
pub use Rattle.coherence_frame.specs.Words.{allows_store, current_in, own_rd, own_wr, owner_has, owner_words, tag_of}
pub use Rattle.coherence_inv.specs.Coherent.{HasCopies, HeldFor}
use Rattle.coherence_frame.specs.Coherent as frame
use Rattle.coherence_frame.specs.Coherent.{Standing}

-- ---- how a cache stands, by the home's state

-- while the home collects acknowledgements, by its rest: for a reader, the sharer that stays is as before
abbrev pub InAcks : Rest → (ℕ → Bool) → ℕ → Spot → ℕ → ℕ → Type 0
InAcks (OfRo a) sharers i s ro wr =
    (sharers i ≡ true → IsSharer s.state (gets_rw s) s.down × (s.up ≡ []))
    × (sharers i ≡ false → Answers s.state ro wr (gets_rw s) s.down s.up × (a ≡ i → (s.down ≡ []) × (s.up ≡ [])))
InAcks rest sharers i s ro wr =
    Answers s.state ro wr (gets_rw s) s.down s.up
    × (held_rw rest i ≡ 1 → (s.down ≡ []) × (s.up ≡ []))

abbrev pub Stands : State → Here → ℕ → Spot → ℕ → ℕ → Type 0
Stands HomeRw home i s ro wr = Apart s ro wr
Stands HomeRo home i s ro wr =
    (home.sharers i ≡ true → IsSharer s.state (gets_rw s) s.down × (s.up ≡ []))
    × (home.sharers i ≡ false → Apart s ro wr)
Stands HomeAcks home i s ro wr = InAcks home.rest home.sharers i s ro wr
Stands HomeExcl home i s ro wr =
    (i ≡ home.owner → Owns s.state s.down × (s.up ≡ []))
    × (i ≢ home.owner → Apart s ro wr)
Stands HomePut home i s ro wr =
    (i ≡ home.owner → GivesBack s.state ro wr s.down s.up × (held_ro home.rest i + held_rw home.rest i ≡ 0))
    × (i ≢ home.owner → Apart s ro wr)
Stands _ home i s ro wr = ⊥

-- ---- continuations, infos

abbrev pub RestFits : ℕ → ℕ → State → Rest → Type 0
RestFits n h HomeAcks OfHome = Unit {0}
RestFits n h HomeAcks (OfRo a) = IsCacheNode n h a
RestFits n h HomeAcks (OfRw a) = IsCacheNode n h a
RestFits n h HomeAcks _ = ⊥
RestFits n h HomePut OfHome = Unit {0}
RestFits n h HomePut (OfRo a) = IsCacheNode n h a
RestFits n h HomePut (OfRw a) = IsCacheNode n h a
RestFits n h HomePut _ = ⊥
RestFits n h CacheWaitRo r = r ≡ OfCache
RestFits n h CacheWaitRw r = r ≡ OfCache
RestFits n h _ r = r ≡ NoRest

-- the directory while the home collects acknowledgements: for a reader one sharer stays, which is not the reader, and one copy
-- is to go
abbrev pub InfosInAcks : ℕ → ℕ → Rest → Here → Type 0
InfosInAcks n h (OfRo a) home =
    ((k : ℕ) → home.sharers k ≡ true → IsCacheNode n h k) × (members n home.sharers ≡ 1) × (home.sharers a ≡ false)
    × (home.acks ≡ 1)
InfosInAcks n h rest home = NoSharers home × (1 ≤ home.acks) × (home.acks ≤ 2)

abbrev pub Infos : ℕ → ℕ → State → Here → Type 0
Infos n h HomeRw home = NoSharers home
Infos n h HomeRo home =
    ((k : ℕ) → home.sharers k ≡ true → IsCacheNode n h k) × (1 ≤ members n home.sharers) × (members n home.sharers ≤ 2)
Infos n h HomeAcks home = InfosInAcks n h home.rest home
Infos n h HomeExcl home = NoSharers home × IsCacheNode n h home.owner
Infos n h HomePut home = NoSharers home × IsCacheNode n h home.owner
Infos n h _ home = ⊥

-- ---- over the sketch

abbrev pub standing : Standing
standing = record {
  RestFits = RestFits;
  Infos = Infos;
  Stands = Stands;
  Copies = HasCopies;
  HeldFor = λ st r x b. HeldFor st x b;
}

abbrev pub AtCache : ℕ → ℕ → Here → ℕ → Spot → Type 0
AtCache = frame.AtCache standing

abbrev pub AtHome : ℕ → ℕ → Here → Spot → Type 0
AtHome = frame.AtHome standing

abbrev pub AtBlock : ℕ → ℕ → List ℕ → Here → (ℕ → Spot) → Type 0
AtBlock = frame.AtBlock standing

abbrev pub AtNode : Layout → Local → ℕ → ℕ → Type 0
AtNode = frame.AtNode standing

abbrev pub Coherent : Layout → (ℕ → List ℕ) → Sketch → Type 0
Coherent = frame.Coherent standing
