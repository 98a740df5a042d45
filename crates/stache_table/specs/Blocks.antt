-- A block under the shipped protocol, as it stands at a node and as the table speaks of it.
use Rattle.std.specs.Prelude.{ℕ, ◌≡◌, ◌<◌, ◌⊎◌, List, [], ◌∷◌, length, map, Option, Some, None, codes, if◌then◌else◌, Bool, false}
use Rattle.std.specs.Str.{bytes_eq}
use Rattle.tw_base.specs.NodeSets.{has}
use Rattle.tw_base.specs.declared.entry.End.{End}
use Rattle.tw_base.specs.declared.entry.End.TheVariants.{Fine, Failed}
use Rattle.tw_base.specs.declared.message.Chan.{Chan}
use Rattle.tw_base.specs.declared.message.Kind.{Kind}
use Rattle.tw_base.specs.declared.message.Kind.TheVariants as number
use Rattle.tw_base.specs.declared.value.Data.{Data}
use Rattle.tw_base.specs.declared.value.Tag.{Tag}
use Rattle.tw_base.specs.declared.value.Tag.TheVariants.{Invalid, ReadOnly, ReadWrite}
use Rattle.tw_base.specs.declared.value.Value.TheVariants as v
use Rattle.teapot_tree.specs.declared.protocol.Handler.{Handler}
use Rattle.teapot_tree.specs.declared.protocol.State.{State}
use Rattle.teapot_tree.specs.declared.protocol.Trigger.{Trigger}
use Rattle.teapot_tree.specs.declared.protocol.Trigger.TheVariants.{RdFault, WrFault, Named, Default}
use Rattle.teapot_tree.specs.declared.stmt.Do.TheOpen.{Do-F}
use Rattle.teapot_tree.specs.declared.stmt.Stmt.{Stmt}
use Rattle.teapot_meaning.specs.Bare.{bare_here}
use Rattle.teapot_meaning.specs.Layers.{Layer, what_of}
use Rattle.teapot_meaning.specs.Names.{error_number}
use Rattle.teapot_meaning.specs.Steps.{node_of, set_of}
use Rattle.teapot_meaning.specs.declared.state.Bound.{Bound}
use Rattle.teapot_meaning.specs.declared.state.Cont.{Cont, out-Cont}
use Rattle.teapot_meaning.specs.declared.state.Ended.{Ended}
use Rattle.teapot_meaning.specs.declared.state.Here.{Here}
use Rattle.teapot_meaning.specs.declared.state.Kept.{Kept}
use Rattle.teapot_meaning.specs.declared.state.Kept.TheVariants as real_kept
use Rattle.teapot_meaning.specs.declared.state.Out.{Out}
use Rattle.teapot_meaning.specs.declared.state.StateVal.{out-StateVal}
use Rattle.block_spots.specs.Cases as cases
use Rattle.block_spots.specs.Cases.{HomeRw, HomeRo, HomeExcl, HomeAcks, HomePut, CacheInv, CacheRo, CacheRw, CacheWaitRo}
use Rattle.block_spots.specs.Cases.{CacheWaitRw, NoRest, OfHome, OfRo, OfRw, OfCache, Effect, channel_of}
use Rattle.block_spots.specs.Views.{Reads, int_of, seen_kind, state_numbered, value_at, words_in}
use Rattle.stache_table.specs.Handling.{handle_in}
use Rattle.stache_tree.specs.Code.{Code, Done, Assign, When, Send, SendAll, SetTag, Suspend}
use Rattle.stache_table.specs.Runs.{Later, Run, here_in, over, play}
use Rattle.stache_tree.specs.Tree.{on, stache, cache_inv_else, cache_inv_on_rd_fault, cache_inv_on_wr_fault, cache_ro_else}
use Rattle.stache_tree.specs.Tree.{cache_ro_on_inv, cache_ro_on_wr_fault, cache_rw_else, cache_rw_on_recall, cache_wait_ro_else}
use Rattle.stache_tree.specs.Tree.{cache_wait_ro_on_data_ro, cache_wait_rw_else, cache_wait_rw_on_data_rw, cache_wait_rw_on_inv}
use Rattle.stache_tree.specs.Tree.{home_acks_else, home_acks_on_ack, home_excl_else, home_excl_on_get_ro, home_excl_on_get_rw}
use Rattle.stache_tree.specs.Tree.{home_excl_on_rd_fault, home_excl_on_wr_fault, home_put_else, home_put_on_put, home_ro_else}
use Rattle.stache_tree.specs.Tree.{home_ro_on_get_ro, home_ro_on_get_rw, home_ro_on_rd_fault, home_ro_on_wr_fault, home_rw_else}
use Rattle.stache_tree.specs.Tree.{home_rw_on_get_ro, home_rw_on_get_rw, home_rw, home_ro, home_excl, home_acks, home_put}
use Rattle.stache_tree.specs.Tree.{cache_inv, cache_ro, cache_rw, cache_wait_ro, cache_wait_rw}

abbrev pub number_of : cases.State → ℕ
number_of HomeRw = 0
number_of HomeRo = 1
number_of HomeExcl = 2
number_of HomeAcks = 3
number_of HomePut = 4
number_of CacheInv = 5
number_of CacheRo = 6
number_of CacheRw = 7
number_of CacheWaitRo = 8
number_of CacheWaitRw = 9

abbrev pub state_at : cases.State → State
state_at HomeRw = home_rw
state_at HomeRo = home_ro
state_at HomeExcl = home_excl
state_at HomeAcks = home_acks
state_at HomePut = home_put
state_at CacheInv = cache_inv
state_at CacheRo = cache_ro
state_at CacheRw = cache_rw
state_at CacheWaitRo = cache_wait_ro
state_at CacheWaitRw = cache_wait_rw

-- the handler of a state for a kind of message: its own, or the Default
pub record Door : Type 0 where
  pub trigger : Trigger
  pub code : Code

abbrev pub door_at : cases.State → cases.Kind → Door
door_at HomeRw cases.GetRo = record { trigger = Named (codes "GET_RO"); code = home_rw_on_get_ro }
door_at HomeRw cases.GetRw = record { trigger = Named (codes "GET_RW"); code = home_rw_on_get_rw }
door_at HomeRw _ = record { trigger = Default; code = home_rw_else }
door_at HomeRo cases.RdFault = record { trigger = RdFault; code = home_ro_on_rd_fault }
door_at HomeRo cases.WrFault = record { trigger = WrFault; code = home_ro_on_wr_fault }
door_at HomeRo cases.GetRo = record { trigger = Named (codes "GET_RO"); code = home_ro_on_get_ro }
door_at HomeRo cases.GetRw = record { trigger = Named (codes "GET_RW"); code = home_ro_on_get_rw }
door_at HomeRo _ = record { trigger = Default; code = home_ro_else }
door_at HomeExcl cases.RdFault = record { trigger = RdFault; code = home_excl_on_rd_fault }
door_at HomeExcl cases.WrFault = record { trigger = WrFault; code = home_excl_on_wr_fault }
door_at HomeExcl cases.GetRo = record { trigger = Named (codes "GET_RO"); code = home_excl_on_get_ro }
door_at HomeExcl cases.GetRw = record { trigger = Named (codes "GET_RW"); code = home_excl_on_get_rw }
door_at HomeExcl _ = record { trigger = Default; code = home_excl_else }
door_at HomeAcks cases.Ack = record { trigger = Named (codes "ACK"); code = home_acks_on_ack }
door_at HomeAcks _ = record { trigger = Default; code = home_acks_else }
door_at HomePut cases.Put = record { trigger = Named (codes "PUT"); code = home_put_on_put }
door_at HomePut _ = record { trigger = Default; code = home_put_else }
door_at CacheInv cases.RdFault = record { trigger = RdFault; code = cache_inv_on_rd_fault }
door_at CacheInv cases.WrFault = record { trigger = WrFault; code = cache_inv_on_wr_fault }
door_at CacheInv _ = record { trigger = Default; code = cache_inv_else }
door_at CacheRo cases.WrFault = record { trigger = WrFault; code = cache_ro_on_wr_fault }
door_at CacheRo cases.Inv = record { trigger = Named (codes "INV"); code = cache_ro_on_inv }
door_at CacheRo _ = record { trigger = Default; code = cache_ro_else }
door_at CacheRw cases.Recall = record { trigger = Named (codes "RECALL"); code = cache_rw_on_recall }
door_at CacheRw _ = record { trigger = Default; code = cache_rw_else }
door_at CacheWaitRo cases.DataRo = record { trigger = Named (codes "DATA_RO"); code = cache_wait_ro_on_data_ro }
door_at CacheWaitRo _ = record { trigger = Default; code = cache_wait_ro_else }
door_at CacheWaitRw cases.DataRw = record { trigger = Named (codes "DATA_RW"); code = cache_wait_rw_on_data_rw }
door_at CacheWaitRw cases.Inv = record { trigger = Named (codes "INV"); code = cache_wait_rw_on_inv }
door_at CacheWaitRw _ = record { trigger = Default; code = cache_wait_rw_else }

abbrev pub handler_of : Door → Handler
handler_of d = on d.trigger d.code

abbrev pub kind_of : cases.Kind → Kind
kind_of cases.RdFault = number.RdFault
kind_of cases.WrFault = number.WrFault
kind_of cases.GetRo = number.Named 0
kind_of cases.GetRw = number.Named 1
kind_of cases.DataRo = number.Named 2
kind_of cases.DataRw = number.Named 3
kind_of cases.Put = number.Named 4
kind_of cases.Inv = number.Named 5
kind_of cases.Ack = number.Named 6
kind_of cases.Recall = number.Named 7
kind_of cases.RecallRo = number.Named 8
kind_of cases.PutRo = number.Named 9

-- what a handler of this protocol saves
abbrev pub saved_by : Code → Code
saved_by (Suspend name c) = c
saved_by (When e first c) = c
saved_by (Assign name e c) = saved_by c
saved_by (Send to name c) = saved_by c
saved_by (SendAll to name c) = saved_by c
saved_by (SetTag tag c) = saved_by c
saved_by _ = Done

abbrev pub rest_at : cases.State → cases.Rest → Code
rest_at HomeAcks OfHome = saved_by home_ro_on_wr_fault
rest_at HomeAcks (OfRw a) = saved_by home_ro_on_get_rw
rest_at HomePut OfHome = saved_by home_excl_on_rd_fault
rest_at HomePut (OfRo a) = saved_by home_excl_on_get_ro
rest_at HomePut (OfRw a) = saved_by home_excl_on_get_rw
rest_at CacheWaitRo OfCache = saved_by cache_inv_on_rd_fault
rest_at CacheWaitRw OfCache = saved_by cache_inv_on_wr_fault
rest_at _ _ = Done

-- ---- a block

-- `left` is the number of the state that a continuation restores, 0 where there is none
pub record Block : Type 0 where
  pub state : cases.State
  pub rest : cases.Rest
  pub left : ℕ
  pub set : List Bool
  pub owner : ℕ
  pub acks : ℕ
  pub tag : Tag
  pub words : Data

abbrev pub src : ℕ → List Bound
src n = record { name = codes "src"; value = v.Node n } ∷ []

-- a continuation that serves this node, which has no data
abbrev pub serving : Code → ℕ → ℕ → Option Later
serving rest node left = Some (record { rest = rest; vars = src node; came = None; state = left })

-- a node's own faults are served for the node itself
abbrev pub later_in : ℕ → cases.State → ℕ → cases.Rest → Option Later
later_in me s left NoRest = None
later_in me s left (OfRo a) = serving (rest_at s (OfRo a)) a left
later_in me s left (OfRw a) = serving (rest_at s (OfRw a)) a left
later_in me s left r = serving (rest_at s r) me left

-- at node me, before a handler for a message from this node with this data
abbrev pub start : ℕ → ℕ → ℕ → Block → ℕ → Option Data → Run
start me home b x from came = record {
  me = me;
  home = home;
  block = b;
  infos = v.Set x.set ∷ v.Node x.owner ∷ v.Int x.acks ∷ [];
  state = number_of x.state;
  later = later_in me x.state x.left x.rest;
  tag = x.tag;
  words = x.words;
  vars = src from;
  came = came;
  sends = [];
  kept = real_kept.No;
  freed = false;
  woke = false;
}

-- the block as the meaning sees it
abbrev pub here_of : ℕ → ℕ → ℕ → Block → Here
here_of me home b x = here_in (start me home b x 0 None)

-- ---- reading a block off what stands at a node

-- whose request a continuation serves, by its first statement and its sender
abbrev pub rest_by : Layer → ℕ → cases.Rest
rest_by (Do-F.SetTag tag) n = OfHome
rest_by (Do-F.Assign name e) n = if bytes_eq name (codes "owner") then OfRw n else OfRo n
rest_by Do-F.WakeUp n = OfCache
rest_by _ n = NoRest

abbrev pub sender_in : List Bound → ℕ
sender_in [] = 0
sender_in (b ∷ bs) = node_of b.value

abbrev pub rest_from : List Stmt → ℕ → cases.Rest
rest_from [] n = NoRest
rest_from (s ∷ stmts) n = rest_by (what_of s) n

abbrev pub reads : Reads
reads None = NoRest
reads (Some k) = rest_from (out-Cont k).rest (sender_in (out-Cont k).vars)

abbrev pub left_of : Option Cont → ℕ
left_of None = 0
left_of (Some k) = (out-StateVal (out-Cont k).saved).state

abbrev pub read : Here → Block
read here = record {
  state = state_numbered (out-StateVal here.state).state;
  rest = reads (out-StateVal here.state).cont;
  left = left_of (out-StateVal here.state).cont;
  set = set_of (value_at here.infos 0);
  owner = node_of (value_at here.infos 1);
  acks = int_of (value_at here.infos 2);
  tag = here.tag;
  words = here.words;
}

-- lines aside, the block is the one that is read off it: its state has no arguments, its continuation is a handler's of
-- the protocol, whole, and its infos are a set, a node and a number
abbrev pub IsLiteral : Here → Type 0
IsLiteral here = bare_here here ≡ here_of here.me here.home here.block (read here)

-- the block as the table sees it
abbrev pub seen : Block → cases.Here
seen x = record {
  state = x.state;
  rest = x.rest;
  sharers = has x.set;
  owner = x.owner;
  acks = x.acks;
  tag = x.tag;
  words = x.words;
}

abbrev pub seen_out : ℕ → ℕ → Out → cases.Message
seen_out b me o = record {
  kind = seen_kind o.kind;
  block = b;
  from = me;
  to = o.to;
  chan = channel_of (seen_kind o.kind);
  payload = words_in o.payload;
}

-- no row reads the receiver or the channel
abbrev pub came_message : ℕ → cases.Kind → ℕ → ℕ → Chan → Option Data → cases.Message
came_message b k from to c came =
    record { kind = k; block = b; from = from; to = to; chan = c; payload = words_in came }

abbrev pub kept_of : cases.Kept → Kept
kept_of cases.No = real_kept.No
kept_of cases.Stale = real_kept.Stale

-- which continuations a block may have by its state, and which state each restores
abbrev pub RestFits : cases.State → cases.Rest → Type 0
RestFits HomeAcks OfHome = Unit {0}
RestFits HomeAcks (OfRw a) = a < 8
RestFits HomePut OfHome = Unit {0}
RestFits HomePut (OfRo a) = a < 8
RestFits HomePut (OfRw a) = a < 8
RestFits CacheWaitRo OfCache = Unit {0}
RestFits CacheWaitRw OfCache = Unit {0}
RestFits HomeAcks _ = ⊥
RestFits HomePut _ = ⊥
RestFits CacheWaitRo _ = ⊥
RestFits CacheWaitRw _ = ⊥
RestFits _ NoRest = Unit {0}
RestFits _ _ = ⊥

abbrev pub LeftFits : cases.State → ℕ → Type 0
LeftFits HomeAcks left = left ≡ 1
LeftFits HomePut left = left ≡ 2
LeftFits CacheWaitRo left = left ≡ 5
LeftFits CacheWaitRw left = (left ≡ 5) ⊎ (left ≡ 6)
LeftFits _ left = left ≡ 0

abbrev pub tag_at : cases.State → Tag
tag_at HomeRw = ReadWrite
tag_at HomeRo = ReadOnly
tag_at HomeAcks = ReadOnly
tag_at CacheRo = ReadOnly
tag_at CacheRw = ReadWrite
tag_at _ = Invalid

pub record BlockFits (x : Block) : Type 0 where
  pub rest : RestFits x.state x.rest
  pub left : LeftFits x.state x.left
  pub tag : x.tag ≡ tag_at x.state
  pub eight : length x.set ≡ 8

-- the block at a node, lines aside, is this one
pub record IsBlock (here : Here) (x : Block) : Type 0 where
  pub block : bare_here here ≡ here_of here.me here.home here.block x
  pub fits : BlockFits x

-- ---- what is shown of a handler

-- how a message was handled, as the table speaks of it
pub record Matches (b me home : ℕ) (e : Ended) (f : Effect) (y : Block) : Type 0 where
  pub end : e.end ≡ Fine
  pub here : e.here ≡ here_of me home b y
  pub seen : f.here ≡ seen y
  pub sends : f.sends ≡ map (seen_out b me) e.sends
  pub kept : e.kept ≡ kept_of f.kept
  pub freed : f.freed ≡ e.freed
  pub woke : f.woke ≡ e.woke
  pub fits : BlockFits y

-- this end is what the table says; where no row stands, the handler meets its Error and nothing is done to the block
abbrev pub Shows : ℕ → ℕ → ℕ → Block → Ended → Option Effect → Type 0
Shows b me home x e (Some f) = (y : Block) × Matches b me home e f y
Shows b me home x e None =
    (e.end ≡ Failed (error_number stache (codes "Unexpected"))) × (e.here ≡ here_of me home b x) × (e.sends ≡ [])

abbrev pub ShowsIf : ℕ → ℕ → ℕ → Block → Option (Run × End) → Option Effect → Type 0
ShowsIf b me home x (Some o) f = Shows b me home x (over o.0 o.1) f
ShowsIf b me home x None f = ⊥

-- a message has data exactly where its kind carries it
abbrev pub CarriesIf : cases.Kind → Option Data → Type 0
CarriesIf cases.DataRo (Some d) = Unit {0}
CarriesIf cases.DataRw (Some d) = Unit {0}
CarriesIf cases.Put (Some d) = Unit {0}
CarriesIf cases.DataRo None = ⊥
CarriesIf cases.DataRw None = ⊥
CarriesIf cases.Put None = ⊥
CarriesIf _ None = Unit {0}
CarriesIf _ (Some d) = ⊥

abbrev pub Row : ℕ → ℕ → ℕ → Block → cases.Kind → ℕ → Option Data → Type 0
Row b me home x k from came =
    (to : ℕ) (c : Chan) →
    ShowsIf b me home x (play 16 stache (door_at x.state k).code (start me home b x from came))
    (handle_in 8 home me (seen x) (came_message b k from to c came))
