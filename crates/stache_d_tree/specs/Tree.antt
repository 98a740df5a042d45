-- The tree of Stache_D, with every line 0: what it changes of Stache, and all else as Stache has it. A recall for a reader is
-- RECALL_RO; the owner answers PUT_RO and keeps a read-only copy (in the literature, the owner is downgraded from Modified to
-- Shared).
use Rattle.std.specs.Prelude.{◌≡◌, List, [], ◌∷◌, Some, None, true, false, codes}
use Rattle.tw_base.specs.declared.message.Chan.TheVariants as chan
use Rattle.tw_base.specs.declared.value.Tag.TheVariants.{Invalid, ReadOnly, ReadWrite}
use Rattle.teapot_tree.specs.Bare.{bare_protocol}
use Rattle.teapot_tree.specs.declared.expr.Op.TheVariants as op
use Rattle.teapot_tree.specs.declared.protocol.Protocol.{Protocol}
use Rattle.teapot_tree.specs.declared.protocol.State.{State}
use Rattle.teapot_tree.specs.declared.protocol.Trigger.TheVariants.{RdFault, WrFault, Named, Default}
use Rattle.teapot_tree.specs.declared.protocol.ValType.TheVariants as ty
use Rattle.stache_tree.specs.Code.{Code, Done, Assign, Send, SetTag, SetState, Suspend, Resume, Install, WakeUp, Src, Var, One}
use Rattle.stache_tree.specs.Code.{Two}
use Rattle.stache_tree.specs.Tree.{message, starts_in, info, on, state, cache_inv, cache_ro, cache_rw_else, cache_rw_on_recall}
use Rattle.stache_tree.specs.Tree.{cache_wait_ro, cache_wait_rw, home_acks, home_excl_else, home_excl_on_get_rw}
use Rattle.stache_tree.specs.Tree.{home_excl_on_wr_fault, home_put_else, home_put_on_put, home_ro, home_rw}

-- the home reads: the owner stays a sharer
abbrev pub home_excl_on_rd_fault_d : Code
home_excl_on_rd_fault_d =
    Send (Var (codes "owner")) (codes "RECALL_RO")
    (Suspend (codes "Home_Put") (Assign (codes "sharers") (One (Var (codes "owner"))) (SetTag ReadOnly (WakeUp
    (SetState (codes "Home_RO") Done)))))

-- a cache reads: the owner and it are the sharers
abbrev pub home_excl_on_get_ro_d : Code
home_excl_on_get_ro_d =
    Send (Var (codes "owner")) (codes "RECALL_RO")
    (Suspend (codes "Home_Put") (Assign (codes "sharers") (Two op.With (One (Var (codes "owner"))) Src) (SetTag ReadOnly
    (Send Src (codes "DATA_RO") (SetState (codes "Home_RO") Done)))))

abbrev pub home_put_on_put_ro : Code
home_put_on_put_ro = Install (Resume (codes "C") Done)

abbrev pub cache_rw_on_recall_ro : Code
cache_rw_on_recall_ro = SetTag ReadOnly (Send Src (codes "PUT_RO") (SetState (codes "Cache_RO") Done))

abbrev pub home_excl_d : State
home_excl_d =
    state (codes "Home_Excl") None (on RdFault home_excl_on_rd_fault_d ∷ on WrFault home_excl_on_wr_fault
    ∷ on (Named (codes "GET_RO")) home_excl_on_get_ro_d ∷ on (Named (codes "GET_RW")) home_excl_on_get_rw
    ∷ on Default home_excl_else ∷ [])

abbrev pub home_put_d : State
home_put_d =
    state (codes "Home_Put") (Some (codes "C")) (on (Named (codes "PUT")) home_put_on_put
    ∷ on (Named (codes "PUT_RO")) home_put_on_put_ro ∷ on Default home_put_else ∷ [])

abbrev pub cache_rw_d : State
cache_rw_d =
    state (codes "Cache_RW") None (on (Named (codes "RECALL")) cache_rw_on_recall
    ∷ on (Named (codes "RECALL_RO")) cache_rw_on_recall_ro ∷ on Default cache_rw_else ∷ [])

unfoldable pub states_d : List State
states_d =
    home_rw ∷ home_ro ∷ home_excl_d ∷ home_acks ∷ home_put_d ∷ cache_inv ∷ cache_ro ∷ cache_rw_d ∷ cache_wait_ro ∷
    cache_wait_rw ∷ []

abbrev pub stache_d : Protocol
stache_d = record {
  name = codes "Stache_D";
  profile = 1;
  line = 0;
  messages =
      message (codes "GET_RO") chan.Zero false ∷ message (codes "GET_RW") chan.Zero false ∷ message
      (codes "DATA_RO") chan.One true ∷ message (codes "DATA_RW") chan.One true
      ∷ message (codes "PUT") chan.One true ∷ message (codes "INV") chan.One false ∷ message
      (codes "ACK") chan.One false ∷ message (codes "RECALL") chan.One false
      ∷ message (codes "RECALL_RO") chan.One false ∷ message (codes "PUT_RO") chan.One true ∷ [];
  infos = info (codes "sharers") ty.Set ∷ info (codes "owner") ty.Node ∷ info (codes "acks") ty.Int ∷ [];
  starts = starts_in true (codes "Home_RW") ReadWrite ∷ starts_in false (codes "Cache_Inv") Invalid ∷ [];
  states = states_d;
}

-- the protocol is Stache_D, line numbers aside
abbrev pub IsStacheD : Protocol → Type 0
IsStacheD p = bare_protocol p ≡ stache_d
