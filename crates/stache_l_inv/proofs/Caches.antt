-- What a row does at one cache.
use Rattle.std.proofs.Common.{◌≡◌, ℕ, List, [], ◌∷◌, ◌++◌, arith, ◌≢◌, ◌⊎◌, Some, refl}
use Rattle.block_spots.specs.Cases.{CacheInv, CacheRo, CacheRw, CacheWaitRo, CacheWaitRw, NoRest, OfCache, Here, HomeExcl}
use Rattle.block_spots.specs.Cases.{HomePut, Kind, State, Message, Effect}
use Rattle.block_spots.specs.Notes.{Note, NGetRo, NGetRw, NInv, NAck, NRecall, NRecallRo, NDataRo, NDataRw, NPut, NPutRo, Spot}
use Rattle.block_spots.specs.Notes.{owes}
use Rattle.stache_l_inv.specs.Coherent.{AtCache, IsCacheState, standing}
use Rattle.tw_base.specs.declared.value.Tag.TheVariants.{Invalid, ReadOnly, ReadWrite}
use Rattle.coherence_frame.proofs.Counts.{how_many-append, gets_push}
use Rattle.stache_l_table.specs.Handling.{handle_in}
use Rattle.stache_l_inv.proofs.NoErrors.{cache_answers, cache_answers_fault}
use Rattle.coherence_frame.proofs.CacheTable.{cache_by}
use Rattle.coherence_frame.proofs.CacheRows.{CacheRows}

module _ (n h : ℕ) (home : Here) (i : ℕ) (s t : Spot) (rest : List Note) (a : AtCache n h home i s) where
  -- rows 19 and 20
  asks_ro : s.state ≡ CacheInv → t ≡ record s { state = CacheWaitRo; rest = OfCache; ask = s.ask ++ NGetRo ∷ [] } →
      AtCache n h home i t × (owes t ≡ owes s)
  asks_ro p q = grind (arith, how_many-append, gets_push)

  asks_rw : s.state ≡ CacheInv → t ≡ record s { state = CacheWaitRw; rest = OfCache; ask = s.ask ++ NGetRw ∷ [] } →
      AtCache n h home i t × (owes t ≡ owes s)
  asks_rw p q = grind (arith, how_many-append, gets_push s.ask NGetRw a.asks tt)

  -- 21
  upgrades : s.state ≡ CacheRo → t ≡ record s {
    state = CacheWaitRw;
    rest = OfCache;
    tag = Invalid;
    ask = s.ask ++ NGetRw ∷ [];
  } → AtCache n h home i t × (owes t ≡ owes s)
  upgrades p q = grind (arith, how_many-append, gets_push s.ask NGetRw a.asks tt)

  -- 22
  inv_at_copy : s.state ≡ CacheRo → s.down ≡ NInv ∷ rest → t
      ≡ record s { state = CacheInv; tag = Invalid; down = rest; up = s.up ++ NAck ∷ [] } →
      AtCache n h home i t × (owes t ≡ owes s)
  inv_at_copy p d q = grind arith

  -- 23
  recall_at_owner : s.state ≡ CacheRw → s.down ≡ NRecall ∷ rest →
      t ≡ record s { state = CacheInv; tag = Invalid; down = rest; up = s.up ++ NPut s.words ∷ [] } →
      AtCache n h home i t × (owes t ≡ owes s)
  recall_at_owner p d q = grind arith

  -- none that leaves it a copy comes
  recall_ro_at_owner : s.state ≡ CacheRw → s.down ≡ NRecallRo ∷ rest →
      t ≡ record s { state = CacheRo; tag = ReadOnly; down = rest; up = s.up ++ NPutRo s.words ∷ [] } →
      AtCache n h home i t × (owes t ≡ owes s)
  recall_ro_at_owner p d q = absurd (grind arith)

  -- 24
  data_ro_came : (vs : List ℕ) → s.state ≡ CacheWaitRo → s.down ≡ NDataRo vs ∷ rest →
      t ≡ record s { state = CacheRo; rest = NoRest; tag = ReadOnly; words = vs; down = rest } →
      AtCache n h home i t × (owes t ≡ owes s)
  data_ro_came vs p d q = grind arith

  -- 25
  data_rw_came : (vs : List ℕ) → s.state ≡ CacheWaitRw → s.down ≡ NDataRw vs ∷ rest →
      t ≡ record s { state = CacheRw; rest = NoRest; tag = ReadWrite; words = vs; down = rest } →
      AtCache n h home i t × (owes t ≡ owes s)
  data_rw_came vs p d q = grind arith

  -- 26
  inv_at_waiter : s.state ≡ CacheWaitRw → s.down ≡ NInv ∷ rest → t ≡ record s { down = rest; up = s.up ++ NAck ∷ [] } →
      AtCache n h home i t × (owes t ≡ owes s)
  inv_at_waiter p d q = grind arith

  -- a store at the owner
  store_at_owner : (vs : List ℕ) → s.tag ≡ ReadWrite → t ≡ record s { words = vs } → AtCache n h home i t × (owes t ≡ owes s)
  store_at_owner vs p q = grind arith

-- an owner takes a recall, or the block that it waits for
owner_row : (n h : ℕ) (home : Here) (i : ℕ) (s : Spot) (x : Note) (rest : List Note) → AtCache n h home i s →
    (home.state ≡ HomeExcl) ⊎ (home.state ≡ HomePut) → i ≡ home.owner → s.down ≡ x ∷ rest →
    (s.state ≡ CacheRw) × (rest ≡ []) × (s.up ≡ []) ⊎ (s.state ≡ CacheWaitRw) × (x ≢ NInv)
owner_row n h home i s x rest a away o d = grind arith

-- at a cache the table says what all protocols say
pub by_cache : (n h i : ℕ) (here : Here) (m : Message) (e : Effect) → IsCacheState here.state →
    handle_in n h i here m ≡ Some e → cache_by here.state h i here m m.kind ≡ Some e
by_cache n h i here m e cs does = go here.state refl m.kind refl
  where
    go : (x : State) → here.state ≡ x → (k : Kind) → m.kind ≡ k → cache_by here.state h i here m m.kind ≡ Some e
    go x p k q = grind arith

pub cache_rows : CacheRows handle_in standing
cache_rows = record {
  does = by_cache;
  cache_answers = cache_answers;
  cache_answers_fault = cache_answers_fault;
  asks_ro = asks_ro;
  asks_rw = asks_rw;
  upgrades = upgrades;
  inv_at_copy = inv_at_copy;
  recall_at_owner = recall_at_owner;
  recall_ro_at_owner = recall_ro_at_owner;
  data_ro_came = data_ro_came;
  data_rw_came = data_rw_came;
  inv_at_waiter = inv_at_waiter;
  store_at_owner = store_at_owner;
  owner_row = owner_row;
}
