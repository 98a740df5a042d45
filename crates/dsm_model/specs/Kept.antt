-- What the program keeps of the nodes and of the wires.
use Rattle.std.specs.Prelude.{◌≡◌, ℕ, ◌≤◌, ◌<◌, ◌^◌, nat_lt, ◌&&◌, Bool, true, length, List, Option, Some, None, slice_get}
use Rattle.std.specs.Prelude.{unwrap_or}
use Rattle.std.specs.List.{list_all}
use Rattle.tw_base.specs.declared.message.Chan.{Chan}
use Rattle.tw_base.specs.declared.message.Message.{Message}
use Rattle.teapot_meaning.specs.declared.state.Here.{Here}
use Rattle.teapot_meaning.specs.declared.state.StateVal.{StateVal, fold-StateVal}
use Rattle.dsm_model.specs.declared.local.Local.{Local as Node}
use Rattle.dsm_model.specs.declared.outbox.Outbox.{Outbox}
use Rattle.dsm_runs.specs.Setups.{Setup}
use Rattle.dsm_model.specs.Views.{AllRoom, nexts_of, wires_of}

-- whether a state, and each that is to be resumed from it, is one of the first n
unfoldable pub is_below : ℕ → StateVal → Bool
is_below n = fold-StateVal Bool Bool (λ k. k.saved) (λ s. nat_lt s.state n && unwrap_or s.cont true)

-- the block is in a state of the protocol
abbrev pub is_served : Setup → Here → Bool
is_served s here = is_below (length s.protocol.states) here.state

-- the message is for one of these blocks
abbrev pub is_for : ℕ → Message → Bool
is_for blocks m = nat_lt m.block blocks

pub record IsSound (s : Setup) (l : Node) : Type 0 where
  pub count : length l.blocks ≡ s.shape.blocks
  pub served : list_all (is_served s) l.blocks ≡ true
  pub deferred : list_all (λ w. is_for s.shape.blocks w.message) l.deferred ≡ true
  pub few : l.sent < 2 ^ 32

abbrev pub AreSound : Setup → List Node → Type 0
AreSound s locals = (i : ℕ) (l : Node) → slice_get locals i ≡ Some l → IsSound s l

abbrev pub sent_at : Option Node → ℕ
sent_at None = 0
sent_at (Some l) = l.sent

-- no more messages are in flight than were sent
pub record IsCounted (s : Setup) (locals : List Node) (outboxes : List Outbox) : Type 0 where
  pub held : (f t : ℕ) (c : Chan) → length (wires_of outboxes f t c) ≤ nexts_of outboxes f t c
  pub sent : (f t : ℕ) (c : Chan) → nexts_of outboxes f t c ≤ sent_at (slice_get locals f)
  pub blocks : (f t : ℕ) (c : Chan) → list_all (is_for s.shape.blocks) (wires_of outboxes f t c) ≡ true

pub record IsKept (s : Setup) (locals : List Node) (outboxes : List Outbox) : Type 0 where
  pub nodes : length locals ≡ s.shape.nodes
  pub senders : length outboxes ≡ s.shape.nodes
  pub room : AllRoom outboxes
  pub sound : AreSound s locals
  pub counted : IsCounted s locals outboxes
