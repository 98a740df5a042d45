-- A cache's handlers, which all protocols have in common: their table, and what they send.
use Rattle.std.proofs.Common.{◌≡◌, ℕ, [], ◌∷◌, true, false, Option, Some, None, arith, refl}
use Rattle.tw_base.specs.declared.value.Tag.TheVariants.{ReadOnly}
use Rattle.block_spots.specs.Cases.{Kind, PutRo, RecallRo, State, CacheInv, CacheRo, CacheRw, CacheWaitRo, CacheWaitRw, Message}
use Rattle.block_spots.specs.Cases.{Here, Effect}
use Rattle.stache_table.specs.Handling.{cache_inv, cache_ro, cache_rw, cache_wait_ro, cache_wait_rw, carrying, goes}
use Rattle.coherence_frame.specs.Words.{IsCacheState}
use Rattle.coherence_frame.proofs.Rows.{IsOrder}
use Rattle.coherence_frame.proofs.Sends.{CacheSends}

-- what a message of this kind does to a cache's block; of the protocols that have no RECALL_RO none comes
abbrev pub cache_by : State → ℕ → ℕ → Here → Message → Kind → Option Effect
cache_by CacheInv home me h m k = cache_inv home me h m k
cache_by CacheRo home me h m k = cache_ro home me h m k
cache_by CacheRw home me h m RecallRo =
    goes (record h { state = CacheRo; tag = ReadOnly }) (carrying PutRo m.block me m.from h.words ∷ []) true false
cache_by CacheRw home me h m k = cache_rw home me h m k
cache_by CacheWaitRo home me h m k = cache_wait_ro home me h m k
cache_by CacheWaitRw home me h m k = cache_wait_rw home me h m k
cache_by _ home me h m k = None

-- it sends to the home alone, and defers nothing
pub cache_by_sends : (h i : ℕ) (here : Here) (m : Message) (e : Effect) → IsCacheState here.state →
    cache_by here.state h i here m m.kind ≡ Some e → (IsOrder m.kind → m.from ≡ h) → CacheSends h e
cache_by_sends h i here m e cs does order = go here.state refl
  where
    go : (x : State) → here.state ≡ x → CacheSends h e
    go CacheInv r = grind arith
    go CacheRo r = grind arith
    go CacheRw r = grind arith
    go CacheWaitRo r = grind arith
    go CacheWaitRw r = grind arith
    go x r = absurd (grind arith)
