-- Stache_D by cases: what a message does to a block. A recall for a read leaves the owner a copy; all else is as in Stache.
use Rattle.std.specs.Prelude.{ℕ, true, false, List, [], ◌∷◌, Option, None}
use Rattle.tw_base.specs.declared.value.Tag.TheVariants.{Invalid, ReadOnly}
use Rattle.block_spots.specs.Cases.{Kind, RdFault, WrFault, GetRo, GetRw, DataRo, Put, Recall, RecallRo, PutRo, State, HomeRw}
use Rattle.block_spots.specs.Cases.{HomeRo, HomeExcl, HomeAcks, HomePut, CacheInv, CacheRo, CacheRw, CacheWaitRo, CacheWaitRw}
use Rattle.block_spots.specs.Cases.{Rest, NoRest, OfHome, OfLoad, OfRo, OfRw, Message, Here, Effect, Table, nobody, with_node}
use Rattle.stache_table.specs.Handling.{carrying, plain, goes, defers, home_rw, home_ro, home_acks, recall, give_home, give_rw}
use Rattle.stache_table.specs.Handling.{cache_inv, cache_ro, cache_wait_ro, cache_wait_rw}

-- a recall that leaves the owner a copy
abbrev pub recall_ro : ℕ → Here → Message → Rest → Option Effect
recall_ro me h m r = goes (record h { state = HomePut; rest = r }) (plain RecallRo m.block me h.owner ∷ []) false false

abbrev pub home_excl : ℕ → Here → Message → Kind → Option Effect
home_excl me h m RdFault = recall_ro me h m OfLoad
home_excl me h m WrFault = recall me h m OfHome
home_excl me h m GetRo = recall_ro me h m (OfRo m.from)
home_excl me h m GetRw = recall me h m (OfRw m.from)
home_excl me h m _ = None

-- the home's own load goes on: the owner is a sharer
abbrev pub share_home : Here → List ℕ → Option Effect
share_home h ws =
    goes (record {
      state = HomeRo;
      rest = NoRest;
      sharers = with_node nobody h.owner;
      owner = h.owner;
      acks = h.acks;
      tag = ReadOnly;
      words = ws;
    })
    [] true true

-- a cache's read is answered: the owner and the asker are the sharers
abbrev pub share_ro : ℕ → ℕ → ℕ → Here → List ℕ → Option Effect
share_ro me b asker h ws =
    goes (record {
      state = HomeRo;
      rest = NoRest;
      sharers = with_node (with_node nobody h.owner) asker;
      owner = h.owner;
      acks = h.acks;
      tag = ReadOnly;
      words = ws;
    })
    (carrying DataRo b me asker ws ∷ []) true false

-- the owner's words came back, by a PUT or a PUT_RO
abbrev pub back_came : ℕ → Here → Message → Rest → Option Effect
back_came me h m OfHome = give_home h m.payload
back_came me h m OfLoad = share_home h m.payload
back_came me h m (OfRo a) = share_ro me m.block a h m.payload
back_came me h m (OfRw a) = give_rw me m.block a h m.payload
back_came me h m _ = None

abbrev pub home_put : ℕ → Here → Message → Kind → Option Effect
home_put me h m Put = back_came me h m h.rest
home_put me h m PutRo = back_came me h m h.rest
home_put me h m _ = defers h

abbrev pub cache_rw : ℕ → ℕ → Here → Message → Kind → Option Effect
cache_rw home me h m Recall =
    goes (record h { state = CacheInv; tag = Invalid }) (carrying Put m.block me m.from h.words ∷ []) true false
cache_rw home me h m RecallRo =
    goes (record h { state = CacheRo; tag = ReadOnly }) (carrying PutRo m.block me m.from h.words ∷ []) true false
cache_rw home me h m _ = None

-- by the state
abbrev pub handle_by : State → ℕ → ℕ → ℕ → Here → Message → Option Effect
handle_by HomeRw n home me h m = home_rw me h m m.kind
handle_by HomeRo n home me h m = home_ro n me h m m.kind
handle_by HomeExcl n home me h m = home_excl me h m m.kind
handle_by HomeAcks n home me h m = home_acks me h m m.kind
handle_by HomePut n home me h m = home_put me h m m.kind
handle_by CacheInv n home me h m = cache_inv home me h m m.kind
handle_by CacheRo n home me h m = cache_ro home me h m m.kind
handle_by CacheRw n home me h m = cache_rw home me h m m.kind
handle_by CacheWaitRo n home me h m = cache_wait_ro home me h m m.kind
handle_by CacheWaitRw n home me h m = cache_wait_rw home me h m m.kind

-- what a message does at node me to a block of this home, among n nodes; None where the handler meets its Error
abbrev pub handle_in : Table
handle_in n home me h m = handle_by h.state n home me h m
