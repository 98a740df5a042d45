-- A block under Stache_L, as it stands at a node and as the table speaks of it: as under Stache, with the variable that the
-- rest of a GET_RO has.
use Rattle.std.specs.Prelude.{ℕ, ◌≡◌, ◌<◌, List, [], ◌∷◌, length, map, Option, Some, None, codes, false}
use Rattle.tw_base.specs.declared.entry.End.{End}
use Rattle.tw_base.specs.declared.entry.End.TheVariants.{Fine, Failed}
use Rattle.tw_base.specs.declared.message.Chan.{Chan}
use Rattle.tw_base.specs.declared.value.Data.{Data}
use Rattle.tw_base.specs.declared.value.Value.TheVariants as v
use Rattle.teapot_tree.specs.declared.protocol.Handler.{Handler}
use Rattle.teapot_tree.specs.declared.protocol.Param.{Param}
use Rattle.teapot_tree.specs.declared.protocol.State.{State}
use Rattle.teapot_tree.specs.declared.protocol.Trigger.TheVariants.{RdFault, WrFault, Named, Default}
use Rattle.teapot_meaning.specs.Bare.{bare_here}
use Rattle.teapot_meaning.specs.Names.{error_number}
use Rattle.teapot_meaning.specs.Steps.{node_of}
use Rattle.teapot_meaning.specs.declared.state.Bound.{Bound}
use Rattle.teapot_meaning.specs.declared.state.Cont.{Cont, out-Cont}
use Rattle.teapot_meaning.specs.declared.state.Ended.{Ended}
use Rattle.teapot_meaning.specs.declared.state.Here.{Here}
use Rattle.teapot_meaning.specs.declared.state.Kept.TheVariants as real_kept
use Rattle.teapot_meaning.specs.declared.state.StateVal.{out-StateVal}
use Rattle.block_spots.specs.Cases as cases
use Rattle.block_spots.specs.Cases.{HomeRw, HomeRo, HomeExcl, HomeAcks, HomePut, CacheInv, CacheRo, CacheRw, CacheWaitRo}
use Rattle.block_spots.specs.Cases.{CacheWaitRw, NoRest, OfRo, OfRw, Effect}
use Rattle.stache_tree.specs.Code.{Code}
use Rattle.stache_tree.specs.Tree.{on_with, cache_inv_else, cache_inv_on_rd_fault, cache_inv_on_wr_fault, cache_ro_else}
use Rattle.stache_tree.specs.Tree.{cache_ro_on_inv, cache_ro_on_wr_fault, cache_rw_else, cache_rw_on_recall, cache_wait_ro_else}
use Rattle.stache_tree.specs.Tree.{cache_wait_ro_on_data_ro, cache_wait_rw_else, cache_wait_rw_on_data_rw, cache_wait_rw_on_inv}
use Rattle.stache_tree.specs.Tree.{home_acks_else, home_acks_on_ack, home_excl_else, home_excl_on_get_ro, home_excl_on_get_rw}
use Rattle.stache_tree.specs.Tree.{home_excl_on_rd_fault, home_excl_on_wr_fault, home_put_else, home_put_on_put, home_ro_else}
use Rattle.stache_tree.specs.Tree.{home_ro_on_get_rw, home_ro_on_rd_fault, home_ro_on_wr_fault, home_rw_else, home_rw_on_get_ro}
use Rattle.stache_tree.specs.Tree.{home_rw_on_get_rw, home_rw, home_excl, home_acks, home_put, cache_inv, cache_ro, cache_rw}
use Rattle.stache_tree.specs.Tree.{cache_wait_ro, cache_wait_rw}
use Rattle.stache_table.specs.Blocks as stache
use Rattle.stache_table.specs.Blocks.{Door, LeftFits, came_message, kept_of, number_of, saved_by, seen, seen_out, serving, src}
use Rattle.stache_table.specs.Blocks.{tag_at}
use Rattle.stache_table.specs.Runs.{Later, Run, here_in, over, play}
use Rattle.stache_l_tree.specs.Tree.{stache_l, home_ro_l, home_ro_on_get_ro_l, victim}
use Rattle.stache_l_table.specs.Handling.{handle_in}

abbrev pub state_at : cases.State → State
state_at HomeRw = home_rw
state_at HomeRo = home_ro_l
state_at HomeExcl = home_excl
state_at HomeAcks = home_acks
state_at HomePut = home_put
state_at CacheInv = cache_inv
state_at CacheRo = cache_ro
state_at CacheRw = cache_rw
state_at CacheWaitRo = cache_wait_ro
state_at CacheWaitRw = cache_wait_rw

-- the handler of a state for a kind of message: its own, or the Default
abbrev pub door_at : cases.State → cases.Kind → Door
door_at HomeRw cases.GetRo = record { trigger = Named (codes "GET_RO"); code = home_rw_on_get_ro }
door_at HomeRw cases.GetRw = record { trigger = Named (codes "GET_RW"); code = home_rw_on_get_rw }
door_at HomeRw _ = record { trigger = Default; code = home_rw_else }
door_at HomeRo cases.RdFault = record { trigger = RdFault; code = home_ro_on_rd_fault }
door_at HomeRo cases.WrFault = record { trigger = WrFault; code = home_ro_on_wr_fault }
door_at HomeRo cases.GetRo = record { trigger = Named (codes "GET_RO"); code = home_ro_on_get_ro_l }
door_at HomeRo cases.GetRw = record { trigger = Named (codes "GET_RW"); code = home_ro_on_get_rw }
door_at HomeRo _ = record { trigger = Default; code = home_ro_else }
door_at HomeExcl cases.RdFault = record { trigger = RdFault; code = home_excl_on_rd_fault }
door_at HomeExcl cases.WrFault = record { trigger = WrFault; code = home_excl_on_wr_fault }
door_at HomeExcl cases.GetRo = record { trigger = Named (codes "GET_RO"); code = home_excl_on_get_ro }
door_at HomeExcl cases.GetRw = record { trigger = Named (codes "GET_RW"); code = home_excl_on_get_rw }
door_at HomeExcl _ = record { trigger = Default; code = home_excl_else }
door_at HomeAcks cases.Ack = record { trigger = Named (codes "ACK"); code = home_acks_on_ack }
door_at HomeAcks _ = record { trigger = Default; code = home_acks_else }
door_at HomePut cases.Put = record { trigger = Named (codes "PUT"); code = home_put_on_put }
door_at HomePut _ = record { trigger = Default; code = home_put_else }
door_at CacheInv cases.RdFault = record { trigger = RdFault; code = cache_inv_on_rd_fault }
door_at CacheInv cases.WrFault = record { trigger = WrFault; code = cache_inv_on_wr_fault }
door_at CacheInv _ = record { trigger = Default; code = cache_inv_else }
door_at CacheRo cases.WrFault = record { trigger = WrFault; code = cache_ro_on_wr_fault }
door_at CacheRo cases.Inv = record { trigger = Named (codes "INV"); code = cache_ro_on_inv }
door_at CacheRo _ = record { trigger = Default; code = cache_ro_else }
door_at CacheRw cases.Recall = record { trigger = Named (codes "RECALL"); code = cache_rw_on_recall }
door_at CacheRw _ = record { trigger = Default; code = cache_rw_else }
door_at CacheWaitRo cases.DataRo = record { trigger = Named (codes "DATA_RO"); code = cache_wait_ro_on_data_ro }
door_at CacheWaitRo _ = record { trigger = Default; code = cache_wait_ro_else }
door_at CacheWaitRw cases.DataRw = record { trigger = Named (codes "DATA_RW"); code = cache_wait_rw_on_data_rw }
door_at CacheWaitRw cases.Inv = record { trigger = Named (codes "INV"); code = cache_wait_rw_on_inv }
door_at CacheWaitRw _ = record { trigger = Default; code = cache_wait_rw_else }

-- the variables that a handler has of its own
abbrev pub locals_at : cases.State → cases.Kind → List Param
locals_at HomeRo cases.GetRo = victim
locals_at _ _ = []

abbrev pub handler_of : List Param → Door → Handler
handler_of locals d = on_with d.trigger locals d.code

abbrev pub rest_at : cases.State → cases.Rest → Code
rest_at HomeAcks (OfRo a) = saved_by home_ro_on_get_ro_l
rest_at s r = stache.rest_at s r

-- ---- a block

-- `chosen` is the node in the variable of the rest of a GET_RO that met two sharers, 0 where there is no such rest
pub record Block : Type 0 where
  pub base : stache.Block
  pub chosen : ℕ

-- the sender and the node that was chosen
abbrev pub src_and : ℕ → ℕ → List Bound
src_and from k = record { name = codes "src"; value = v.Node from } ∷ record { name = codes "x"; value = v.Node k } ∷ []

-- a handler's variables as it begins
abbrev pub vars_at : cases.State → cases.Kind → ℕ → List Bound
vars_at HomeRo cases.GetRo from = src_and from 0
vars_at _ _ from = src from

-- a node's own faults are served for the node itself
abbrev pub later_in : ℕ → cases.State → ℕ → ℕ → cases.Rest → Option Later
later_in me HomeAcks left k (OfRo a) =
    Some (record { rest = rest_at HomeAcks (OfRo a); vars = src_and a k; came = None; state = left })
later_in me s left k NoRest = None
later_in me s left k (OfRo a) = serving (rest_at s (OfRo a)) a left
later_in me s left k (OfRw a) = serving (rest_at s (OfRw a)) a left
later_in me s left k r = serving (rest_at s r) me left

-- at node me, before a handler with these variables for a message with this data
abbrev pub start : ℕ → ℕ → ℕ → Block → List Bound → Option Data → Run
start me home b x vars came = record {
  me = me;
  home = home;
  block = b;
  infos = v.Set x.base.set ∷ v.Node x.base.owner ∷ v.Int x.base.acks ∷ [];
  state = number_of x.base.state;
  later = later_in me x.base.state x.base.left x.chosen x.base.rest;
  tag = x.base.tag;
  words = x.base.words;
  vars = vars;
  came = came;
  sends = [];
  kept = real_kept.No;
  freed = false;
  woke = false;
}

-- the block as the meaning sees it
abbrev pub here_of : ℕ → ℕ → ℕ → Block → Here
here_of me home b x = here_in (start me home b x [] None)

-- ---- reading a block off what stands at a node

abbrev pub second_in : List Bound → ℕ
second_in (a ∷ b ∷ bs) = node_of b.value
second_in _ = 0

abbrev pub chosen_of : Option Cont → ℕ
chosen_of None = 0
chosen_of (Some k) = second_in (out-Cont k).vars

abbrev pub read : Here → Block
read here = record { base = stache.read here; chosen = chosen_of (out-StateVal here.state).cont }

-- lines aside, the block is the one that is read off it: its state has no arguments, its continuation is a handler's of
-- the protocol, whole, and its infos are a set, a node and a number
abbrev pub IsLiteral : Here → Type 0
IsLiteral here = bare_here here ≡ here_of here.me here.home here.block (read here)

-- which continuations a block may have by its state
abbrev pub RestFits : cases.State → cases.Rest → Type 0
RestFits HomeAcks (OfRo a) = a < 8
RestFits s r = stache.RestFits s r

abbrev pub ChosenFits : cases.State → cases.Rest → ℕ → Type 0
ChosenFits HomeAcks (OfRo a) k = Unit {0}
ChosenFits _ _ k = k ≡ 0

pub record BlockFits (x : Block) : Type 0 where
  pub rest : RestFits x.base.state x.base.rest
  pub left : LeftFits x.base.state x.base.left
  pub tag : x.base.tag ≡ tag_at x.base.state
  pub eight : length x.base.set ≡ 8
  pub chosen : ChosenFits x.base.state x.base.rest x.chosen

-- the block at a node, lines aside, is this one
pub record IsBlock (here : Here) (x : Block) : Type 0 where
  pub block : bare_here here ≡ here_of here.me here.home here.block x
  pub fits : BlockFits x

-- ---- what is shown of a handler

-- how a message was handled, as the table speaks of it
pub record Matches (b me home : ℕ) (e : Ended) (f : Effect) (y : Block) : Type 0 where
  pub end : e.end ≡ Fine
  pub here : e.here ≡ here_of me home b y
  pub seen : f.here ≡ seen y.base
  pub sends : f.sends ≡ map (seen_out b me) e.sends
  pub kept : e.kept ≡ kept_of f.kept
  pub freed : f.freed ≡ e.freed
  pub woke : f.woke ≡ e.woke
  pub fits : BlockFits y

-- this end is what the table says; where no row stands, the handler meets its Error and nothing is done to the block
abbrev pub Shows : ℕ → ℕ → ℕ → Block → Ended → Option Effect → Type 0
Shows b me home x e (Some f) = (y : Block) × Matches b me home e f y
Shows b me home x e None =
    (e.end ≡ Failed (error_number stache_l (codes "Unexpected"))) × (e.here ≡ here_of me home b x) × (e.sends ≡ [])

abbrev pub ShowsIf : ℕ → ℕ → ℕ → Block → Option (Run × End) → Option Effect → Type 0
ShowsIf b me home x (Some o) f = Shows b me home x (over o.0 o.1) f
ShowsIf b me home x None f = ⊥

abbrev pub Row : ℕ → ℕ → ℕ → Block → cases.Kind → ℕ → Option Data → Type 0
Row b me home x k from came =
    (to : ℕ) (c : Chan) →
    ShowsIf b me home x (play 16 stache_l (door_at x.base.state k).code (start me home b x (vars_at x.base.state k from) came))
    (handle_in 8 home me (seen x.base) (came_message b k from to c came))
