-- The shipped protocol's tree, with every line 0.
use Rattle.std.specs.Prelude.{◌≡◌, List, [], ◌∷◌, Option, Some, None, Bool, true, false, codes}
use Rattle.tw_base.specs.declared.name.Name.{Name}
use Rattle.tw_base.specs.declared.message.Chan.{Chan}
use Rattle.tw_base.specs.declared.message.Chan.TheVariants as chan
use Rattle.tw_base.specs.declared.value.Tag.{Tag}
use Rattle.tw_base.specs.declared.value.Tag.TheVariants.{Invalid, ReadOnly, ReadWrite}
use Rattle.teapot_tree.specs.Bare.{bare_protocol}
use Rattle.teapot_tree.specs.declared.expr.Op.TheVariants as op
use Rattle.teapot_tree.specs.declared.protocol.Handler.{Handler}
use Rattle.teapot_tree.specs.declared.protocol.MessageDecl.{MessageDecl}
use Rattle.teapot_tree.specs.declared.protocol.Param.{Param}
use Rattle.teapot_tree.specs.declared.protocol.Protocol.{Protocol}
use Rattle.teapot_tree.specs.declared.protocol.Start.{Start}
use Rattle.teapot_tree.specs.declared.protocol.State.{State}
use Rattle.teapot_tree.specs.declared.protocol.Trigger.{Trigger}
use Rattle.teapot_tree.specs.declared.protocol.Trigger.TheVariants.{RdFault, WrFault, Named, Default}
use Rattle.teapot_tree.specs.declared.protocol.ValType.{ValType}
use Rattle.teapot_tree.specs.declared.protocol.ValType.TheVariants as ty
use Rattle.stache_tree.specs.Code.{Code, Done, Assign, When, Send, SendAll, SetTag, SetState, Suspend, Resume, Error, Install}
use Rattle.stache_tree.specs.Code.{Enqueue, WakeUp, Number, Empty, Src, Home, Var, One, Count, Two, stmts_of}

abbrev pub message : Name → Chan → Bool → MessageDecl
message name c carries = record { name = name; args = []; chan = c; carries = carries; line = 0 }

abbrev pub starts_in : Bool → Name → Tag → Start
starts_in home name tag = record { home = home; state = name; tag = tag; line = 0 }

abbrev pub info : Name → ValType → Param
info name ty = record { name = name; ty = ty; line = 0 }

-- a handler with these variables of its own
abbrev pub on_with : Trigger → List Param → Code → Handler
on_with trigger locals code = record { on = trigger; args = []; locals = locals; body = stmts_of code; line = 0 }

abbrev pub on : Trigger → Code → Handler
on trigger code = on_with trigger [] code

abbrev pub state : Name → Option Name → List Handler → State
state name cont handlers = record { name = name; params = []; cont = cont; handlers = handlers; line = 0 }

abbrev pub home_rw_on_get_ro : Code
home_rw_on_get_ro =
    Assign (codes "sharers") (One Src) (SetTag ReadOnly (Send Src (codes "DATA_RO")
    (SetState (codes "Home_RO") Done)))

abbrev pub home_rw_on_get_rw : Code
home_rw_on_get_rw =
    Assign (codes "owner") Src (SetTag Invalid (Send Src (codes "DATA_RW")
    (SetState (codes "Home_Excl") Done)))

abbrev pub home_rw_else : Code
home_rw_else = Error (codes "Unexpected") Done

abbrev pub home_ro_on_rd_fault : Code
home_ro_on_rd_fault = WakeUp Done

abbrev pub home_ro_on_wr_fault : Code
home_ro_on_wr_fault =
    Assign (codes "acks") (Count (Var (codes "sharers")))
    (SendAll (Var (codes "sharers")) (codes "INV") (Assign (codes "sharers") Empty
    (Suspend (codes "Home_Acks") (SetTag ReadWrite (WakeUp (SetState (codes "Home_RW") Done))))))

abbrev pub home_ro_on_get_ro : Code
home_ro_on_get_ro = Assign (codes "sharers") (Two op.With (Var (codes "sharers")) Src) (Send Src (codes "DATA_RO") Done)

abbrev pub home_ro_on_get_rw : Code
home_ro_on_get_rw =
    Assign (codes "sharers") (Two op.Without (Var (codes "sharers")) Src) (Assign (codes "acks") (Count (Var (codes "sharers")))
    (When (Two op.Lt (Number 0) (Var (codes "acks")))
    (SendAll (Var (codes "sharers")) (codes "INV") (Assign (codes "sharers") Empty
    (Suspend (codes "Home_Acks") Done))) (Assign (codes "owner") Src (SetTag Invalid (Send Src (codes "DATA_RW")
    (SetState (codes "Home_Excl") Done))))))

abbrev pub home_ro_else : Code
home_ro_else = Error (codes "Unexpected") Done

abbrev pub home_excl_on_rd_fault : Code
home_excl_on_rd_fault =
    Send (Var (codes "owner")) (codes "RECALL") (Suspend (codes "Home_Put") (SetTag ReadWrite (WakeUp
    (SetState (codes "Home_RW") Done))))

abbrev pub home_excl_on_wr_fault : Code
home_excl_on_wr_fault =
    Send (Var (codes "owner")) (codes "RECALL") (Suspend (codes "Home_Put") (SetTag ReadWrite (WakeUp
    (SetState (codes "Home_RW") Done))))

abbrev pub home_excl_on_get_ro : Code
home_excl_on_get_ro =
    Send (Var (codes "owner")) (codes "RECALL")
    (Suspend (codes "Home_Put") (Assign (codes "sharers") (One Src) (SetTag ReadOnly (Send Src (codes "DATA_RO")
    (SetState (codes "Home_RO") Done)))))

abbrev pub home_excl_on_get_rw : Code
home_excl_on_get_rw =
    Send (Var (codes "owner")) (codes "RECALL")
    (Suspend (codes "Home_Put") (Assign (codes "owner") Src (Send Src (codes "DATA_RW")
    (SetState (codes "Home_Excl") Done))))

abbrev pub home_excl_else : Code
home_excl_else = Error (codes "Unexpected") Done

abbrev pub home_acks_on_ack : Code
home_acks_on_ack =
    Assign (codes "acks") (Two op.Sub (Var (codes "acks")) (Number 1))
    (When (Two op.Eq (Var (codes "acks")) (Number 0)) (Resume (codes "C") Done) Done)

abbrev pub home_acks_else : Code
home_acks_else = Enqueue Done

abbrev pub home_put_on_put : Code
home_put_on_put = Install (Resume (codes "C") Done)

abbrev pub home_put_else : Code
home_put_else = Enqueue Done

abbrev pub cache_inv_on_rd_fault : Code
cache_inv_on_rd_fault =
    Send Home (codes "GET_RO") (Suspend (codes "Cache_Wait_RO") (WakeUp (SetState (codes "Cache_RO") Done)))

abbrev pub cache_inv_on_wr_fault : Code
cache_inv_on_wr_fault =
    Send Home (codes "GET_RW") (Suspend (codes "Cache_Wait_RW") (WakeUp (SetState (codes "Cache_RW") Done)))

abbrev pub cache_inv_else : Code
cache_inv_else = Error (codes "Unexpected") Done

abbrev pub cache_ro_on_wr_fault : Code
cache_ro_on_wr_fault =
    SetTag Invalid (Send Home (codes "GET_RW") (Suspend (codes "Cache_Wait_RW") (WakeUp
    (SetState (codes "Cache_RW") Done))))

abbrev pub cache_ro_on_inv : Code
cache_ro_on_inv = SetTag Invalid (Send Src (codes "ACK") (SetState (codes "Cache_Inv") Done))

abbrev pub cache_ro_else : Code
cache_ro_else = Error (codes "Unexpected") Done

abbrev pub cache_rw_on_recall : Code
cache_rw_on_recall = SetTag Invalid (Send Src (codes "PUT") (SetState (codes "Cache_Inv") Done))

abbrev pub cache_rw_else : Code
cache_rw_else = Error (codes "Unexpected") Done

abbrev pub cache_wait_ro_on_data_ro : Code
cache_wait_ro_on_data_ro = Install (SetTag ReadOnly (Resume (codes "C") Done))

abbrev pub cache_wait_ro_else : Code
cache_wait_ro_else = Error (codes "Unexpected") Done

abbrev pub cache_wait_rw_on_data_rw : Code
cache_wait_rw_on_data_rw = Install (SetTag ReadWrite (Resume (codes "C") Done))

abbrev pub cache_wait_rw_on_inv : Code
cache_wait_rw_on_inv = Send Src (codes "ACK") Done

abbrev pub cache_wait_rw_else : Code
cache_wait_rw_else = Error (codes "Unexpected") Done

abbrev pub home_rw : State
home_rw =
    state (codes "Home_RW") None (on (Named (codes "GET_RO")) home_rw_on_get_ro
    ∷ on (Named (codes "GET_RW")) home_rw_on_get_rw ∷ on Default home_rw_else ∷ [])

abbrev pub home_ro : State
home_ro =
    state (codes "Home_RO") None (on RdFault home_ro_on_rd_fault ∷ on WrFault home_ro_on_wr_fault
    ∷ on (Named (codes "GET_RO")) home_ro_on_get_ro ∷ on (Named (codes "GET_RW")) home_ro_on_get_rw
    ∷ on Default home_ro_else ∷ [])

abbrev pub home_excl : State
home_excl =
    state (codes "Home_Excl") None (on RdFault home_excl_on_rd_fault ∷ on WrFault home_excl_on_wr_fault
    ∷ on (Named (codes "GET_RO")) home_excl_on_get_ro ∷ on (Named (codes "GET_RW")) home_excl_on_get_rw
    ∷ on Default home_excl_else ∷ [])

abbrev pub home_acks : State
home_acks =
    state (codes "Home_Acks") (Some (codes "C")) (on (Named (codes "ACK")) home_acks_on_ack
    ∷ on Default home_acks_else ∷ [])

abbrev pub home_put : State
home_put =
    state (codes "Home_Put") (Some (codes "C")) (on (Named (codes "PUT")) home_put_on_put
    ∷ on Default home_put_else ∷ [])

abbrev pub cache_inv : State
cache_inv =
    state (codes "Cache_Inv") None (on RdFault cache_inv_on_rd_fault ∷ on WrFault cache_inv_on_wr_fault
    ∷ on Default cache_inv_else ∷ [])

abbrev pub cache_ro : State
cache_ro =
    state (codes "Cache_RO") None (on WrFault cache_ro_on_wr_fault ∷ on (Named (codes "INV")) cache_ro_on_inv
    ∷ on Default cache_ro_else ∷ [])

abbrev pub cache_rw : State
cache_rw = state (codes "Cache_RW") None (on (Named (codes "RECALL")) cache_rw_on_recall ∷ on Default cache_rw_else ∷ [])

abbrev pub cache_wait_ro : State
cache_wait_ro =
    state (codes "Cache_Wait_RO") (Some (codes "C")) (on (Named (codes "DATA_RO")) cache_wait_ro_on_data_ro
    ∷ on Default cache_wait_ro_else ∷ [])

abbrev pub cache_wait_rw : State
cache_wait_rw =
    state (codes "Cache_Wait_RW") (Some (codes "C")) (on (Named (codes "DATA_RW")) cache_wait_rw_on_data_rw
    ∷ on (Named (codes "INV")) cache_wait_rw_on_inv ∷ on Default cache_wait_rw_else ∷ [])

unfoldable pub states : List State
states =
    home_rw ∷ home_ro ∷ home_excl ∷ home_acks ∷ home_put ∷ cache_inv ∷ cache_ro ∷ cache_rw ∷ cache_wait_ro ∷ cache_wait_rw ∷ []

abbrev pub stache : Protocol
stache = record {
  name = codes "Stache";
  profile = 1;
  line = 0;
  messages =
      message (codes "GET_RO") chan.Zero false ∷ message (codes "GET_RW") chan.Zero false ∷ message
      (codes "DATA_RO") chan.One true ∷ message (codes "DATA_RW") chan.One true
      ∷ message (codes "PUT") chan.One true ∷ message (codes "INV") chan.One false ∷ message
      (codes "ACK") chan.One false ∷ message (codes "RECALL") chan.One false ∷ [];
  infos = info (codes "sharers") ty.Set ∷ info (codes "owner") ty.Node ∷ info (codes "acks") ty.Int ∷ [];
  starts = starts_in true (codes "Home_RW") ReadWrite ∷ starts_in false (codes "Cache_Inv") Invalid ∷ [];
  states = states;
}

-- the protocol is the shipped one, line numbers aside
abbrev pub IsStache : Protocol → Type 0
IsStache p = bare_protocol p ≡ stache
