-- Stache_L by cases: what a message does to a block. A reader that meets two sharers first has the copy of one of them
-- invalidated; all else is as in Stache.
use Rattle.std.specs.Prelude.{ℕ, zero, suc, ◌-◌, ◌==◌, Bool, true, false, if◌then◌else◌, nat_lt, [], ◌∷◌, Option}
use Rattle.block_spots.specs.Cases.{Kind, GetRo, DataRo, Inv, Ack, State, HomeRw, HomeRo, HomeExcl, HomeAcks, HomePut, CacheInv}
use Rattle.block_spots.specs.Cases.{CacheRo, CacheRw, CacheWaitRo, CacheWaitRw, Rest, NoRest, OfRo, Message, Here, Effect}
use Rattle.block_spots.specs.Cases.{Table, with_node, without_node, members}
use Rattle.stache_table.specs.Handling as stache
use Rattle.stache_table.specs.Handling.{carrying, plain, goes, defers, home_rw, home_excl, home_put, cache_inv, cache_ro}
use Rattle.stache_table.specs.Handling.{cache_rw, cache_wait_ro, cache_wait_rw}

-- the member of greatest number among the first n, 0 where there is none
abbrev pub greatest : ℕ → (ℕ → Bool) → ℕ
greatest zero s = 0
greatest (suc n) s = if s n then n else greatest n s

-- one of the two sharers is to give its copy up; the other stays
abbrev pub revoke_one : ℕ → ℕ → Here → Message → Option Effect
revoke_one n me h m =
    goes (record h { state = HomeAcks; rest = OfRo m.from; sharers = without_node h.sharers (greatest n h.sharers); acks = 1 })
    (plain Inv m.block me (greatest n h.sharers) ∷ []) false false

abbrev pub home_ro : ℕ → ℕ → Here → Message → Kind → Option Effect
home_ro n me h m GetRo =
    if members n h.sharers == 2
    then revoke_one n me h m
    else goes (record h { sharers = with_node h.sharers m.from }) (carrying DataRo m.block me m.from h.words ∷ []) false false
home_ro n me h m k = stache.home_ro n me h m k

-- the reader that waited for the copy of another: it and the sharer that stayed are the sharers
abbrev pub share_ro : ℕ → ℕ → ℕ → Here → Option Effect
share_ro me b asker h =
    goes (record h { state = HomeRo; rest = NoRest; sharers = with_node h.sharers asker })
    (carrying DataRo b me asker h.words ∷ []) true false

abbrev pub last_ack : ℕ → Here → Message → Rest → Option Effect
last_ack me h m (OfRo a) = share_ro me m.block a (record h { acks = 0 })
last_ack me h m r = stache.last_ack me h m r

abbrev pub home_acks : ℕ → Here → Message → Kind → Option Effect
home_acks me h m Ack =
    if nat_lt 1 h.acks
    then goes (record h { acks = h.acks - 1 }) [] false false
    else last_ack me h m h.rest
home_acks me h m _ = defers h

-- by the state
abbrev pub handle_by : State → ℕ → ℕ → ℕ → Here → Message → Option Effect
handle_by HomeRw n home me h m = home_rw me h m m.kind
handle_by HomeRo n home me h m = home_ro n me h m m.kind
handle_by HomeExcl n home me h m = home_excl me h m m.kind
handle_by HomeAcks n home me h m = home_acks me h m m.kind
handle_by HomePut n home me h m = home_put me h m m.kind
handle_by CacheInv n home me h m = cache_inv home me h m m.kind
handle_by CacheRo n home me h m = cache_ro home me h m m.kind
handle_by CacheRw n home me h m = cache_rw home me h m m.kind
handle_by CacheWaitRo n home me h m = cache_wait_ro home me h m m.kind
handle_by CacheWaitRw n home me h m = cache_wait_rw home me h m m.kind

-- what a message does at node me to a block of this home, among n nodes; None where the handler meets its Error
abbrev pub handle_in : Table
handle_in n home me h m = handle_by h.state n home me h m
