-- The tree of Stache_L, with every line 0: what it changes of Stache, and all else as Stache has it. At most two caches hold a
-- block read-only: before a third may read, the copy of one of the two is invalidated (in the literature, a limited directory,
-- without broadcast).
use Rattle.std.specs.Prelude.{◌≡◌, List, [], ◌∷◌, None, true, false, codes}
use Rattle.tw_base.specs.declared.message.Chan.TheVariants as chan
use Rattle.tw_base.specs.declared.value.Tag.TheVariants.{Invalid, ReadWrite}
use Rattle.teapot_tree.specs.Bare.{bare_protocol}
use Rattle.teapot_tree.specs.declared.expr.Op.TheVariants as op
use Rattle.teapot_tree.specs.declared.protocol.Param.{Param}
use Rattle.teapot_tree.specs.declared.protocol.Protocol.{Protocol}
use Rattle.teapot_tree.specs.declared.protocol.State.{State}
use Rattle.teapot_tree.specs.declared.protocol.Trigger.TheVariants.{RdFault, WrFault, Named, Default}
use Rattle.teapot_tree.specs.declared.protocol.ValType.TheVariants as ty
use Rattle.stache_tree.specs.Code.{Code, Done, Assign, When, Last, Send, Suspend, Number, Src, Var, Count, Two}
use Rattle.stache_tree.specs.Tree.{message, starts_in, info, on, on_with, state, cache_inv, cache_ro, cache_rw, cache_wait_ro}
use Rattle.stache_tree.specs.Tree.{cache_wait_rw, home_acks, home_excl, home_put, home_ro_else, home_ro_on_get_rw}
use Rattle.stache_tree.specs.Tree.{home_ro_on_rd_fault, home_ro_on_wr_fault, home_rw}

-- the sharer whose copy is to go
abbrev pub victim : List Param
victim = info (codes "x") ty.Node ∷ []

-- a cache reads: where two others are sharers, the one of greatest number loses its copy first
abbrev pub home_ro_on_get_ro_l : Code
home_ro_on_get_ro_l =
    When (Two op.Eq (Count (Var (codes "sharers"))) (Number 2))
    (Last (codes "x") (Var (codes "sharers"))
    (Assign (codes "sharers") (Two op.Without (Var (codes "sharers")) (Var (codes "x"))) (Assign (codes "acks") (Number 1)
    (Send (Var (codes "x")) (codes "INV") (Suspend (codes "Home_Acks") Done)))))
    (Assign (codes "sharers") (Two op.With (Var (codes "sharers")) Src) (Send Src (codes "DATA_RO") Done))

abbrev pub home_ro_l : State
home_ro_l =
    state (codes "Home_RO") None (on RdFault home_ro_on_rd_fault ∷ on WrFault home_ro_on_wr_fault
    ∷ on_with (Named (codes "GET_RO")) victim home_ro_on_get_ro_l ∷ on (Named (codes "GET_RW")) home_ro_on_get_rw
    ∷ on Default home_ro_else ∷ [])

unfoldable pub states_l : List State
states_l =
    home_rw ∷ home_ro_l ∷ home_excl ∷ home_acks ∷ home_put ∷ cache_inv ∷ cache_ro ∷ cache_rw ∷ cache_wait_ro ∷ cache_wait_rw ∷ []

abbrev pub stache_l : Protocol
stache_l = record {
  name = codes "Stache_L";
  profile = 2;
  line = 0;
  messages =
      message (codes "GET_RO") chan.Zero false ∷ message (codes "GET_RW") chan.Zero false ∷ message
      (codes "DATA_RO") chan.One true ∷ message (codes "DATA_RW") chan.One true
      ∷ message (codes "PUT") chan.One true ∷ message (codes "INV") chan.One false ∷ message
      (codes "ACK") chan.One false ∷ message (codes "RECALL") chan.One false ∷ [];
  infos = info (codes "sharers") ty.Set ∷ info (codes "owner") ty.Node ∷ info (codes "acks") ty.Int ∷ [];
  starts = starts_in true (codes "Home_RW") ReadWrite ∷ starts_in false (codes "Cache_Inv") Invalid ∷ [];
  states = states_l;
}

-- the protocol is Stache_L, line numbers aside
abbrev pub IsStacheL : Protocol → Type 0
IsStacheL p = bare_protocol p ≡ stache_l
