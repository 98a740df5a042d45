-- The sketch of a state of a run.
use Rattle.std.specs.Prelude.{ℕ, not, ◌&&◌, nat_lt, Bool, List, [], ◌∷◌, map, Option, Some, None, is_some, slice_get, unwrap_or}
use Rattle.tw_base.specs.NodeSets.{has}
use Rattle.tw_base.specs.Shape.{handler_budget_of}
use Rattle.tw_base.specs.declared.message.Kind.{Kind}
use Rattle.tw_base.specs.declared.message.Kind.TheVariants as number
use Rattle.tw_base.specs.declared.message.Message.{Message}
use Rattle.tw_base.specs.declared.value.Data.{Data}
use Rattle.tw_base.specs.declared.value.Value.{Value}
use Rattle.tw_base.specs.declared.value.Value.TheVariants as v
use Rattle.mini_asm.specs.declared.cpu.Next.{Next}
use Rattle.mini_asm.specs.declared.cpu.Next.TheVariants as next
use Rattle.teapot_meaning.specs.Steps.{node_of, set_of}
use Rattle.teapot_meaning.specs.declared.state.Cont.{Cont}
use Rattle.teapot_meaning.specs.declared.state.Here.{Here}
use Rattle.teapot_meaning.specs.declared.state.StateVal.{out-StateVal}
use Rattle.dsm_runs.specs.declared.mode.Waiting.{Waiting}
use Rattle.dsm_runs.specs.Locals.{Local, last_stamp}
use Rattle.dsm_runs.specs.Setups.{Setup, asked, block_of, home_of}
use Rattle.dsm_runs.specs.Worlds.{World}
use Rattle.block_spots.specs.Cases as cases
use Rattle.block_spots.specs.Notes as marks
use Rattle.block_spots.specs.Sketches as plain

-- ---- numbers, as the protocols declare their states and messages

abbrev pub state_numbered : ℕ → cases.State
state_numbered n =
    unwrap_or
    (slice_get (cases.HomeRw ∷ cases.HomeRo ∷ cases.HomeExcl ∷ cases.HomeAcks ∷ cases.HomePut ∷ cases.CacheInv ∷
    cases.CacheRo ∷ cases.CacheRw ∷ cases.CacheWaitRo ∷ cases.CacheWaitRw ∷ []) n) cases.CacheInv

abbrev pub kind_numbered : ℕ → cases.Kind
kind_numbered n =
    unwrap_or
    (slice_get (cases.GetRo ∷ cases.GetRw ∷ cases.DataRo ∷ cases.DataRw ∷ cases.Put ∷ cases.Inv ∷ cases.Ack ∷
    cases.Recall ∷ cases.RecallRo ∷ cases.PutRo ∷ []) n) cases.GetRo

abbrev pub seen_kind : Kind → cases.Kind
seen_kind number.RdFault = cases.RdFault
seen_kind number.WrFault = cases.WrFault
seen_kind (number.Named n) = kind_numbered n

-- ---- a block and a message

-- the value at a place, 0 past the last
abbrev pub value_at : List Value → ℕ → Value
value_at values k = unwrap_or (slice_get values k) (v.Int 0)

abbrev pub int_of : Value → ℕ
int_of (v.Int n) = n
int_of _ = 0

-- how a protocol tells its continuations apart
abbrev pub Reads : Type 0
Reads = Option Cont → cases.Rest

abbrev pub seen_here : Reads → Here → cases.Here
seen_here reads here = record {
  state = state_numbered (out-StateVal here.state).state;
  rest = reads (out-StateVal here.state).cont;
  sharers = has (set_of (value_at here.infos 0));
  owner = node_of (value_at here.infos 1);
  acks = int_of (value_at here.infos 2);
  tag = here.tag;
  words = here.words;
}

abbrev pub words_in : Option Data → List ℕ
words_in (Some d) = d
words_in None = []

abbrev pub seen_message : Message → cases.Message
seen_message m = record {
  kind = seen_kind m.kind;
  block = m.block;
  from = m.from;
  to = m.to;
  chan = m.chan;
  payload = words_in m.payload;
}

abbrev pub seen_waiting : Waiting → marks.Waiting
seen_waiting w = record { message = seen_message w.message; eligible = w.eligible }

-- ---- a node, and all nodes and wires

abbrev pub seen_next : Setup → Next → plain.Next
seen_next s (next.Access store address value) = plain.needs store (block_of s address)
seen_next s (next.Faa address added) = plain.Stores (block_of s address)
seen_next s (next.Trap why) = plain.Neither
seen_next s next.Halt = plain.Neither
seen_next s (next.Print value) = plain.Neither
seen_next s next.Step = plain.Neither

-- all that an instruction event needs but the mode
abbrev pub seen_may : Setup → Local → Bool
seen_may s l =
    not (is_some l.failed) && (nat_lt l.instructions s.shape.budget
    && (nat_lt l.sent (handler_budget_of s.shape) && nat_lt l.clock last_stamp))

abbrev pub seen_local : Reads → Setup → ℕ → Local → plain.Local
seen_local reads s i l = record {
  mode = l.mode;
  next = seen_next s (asked s i l.cpu);
  may = seen_may s l;
  blocks = λ b. seen_here reads (l.blocks b);
  deferred = map seen_waiting l.deferred;
}

abbrev pub sketch : Reads → Setup → World → plain.Sketch
sketch reads s g = record {
  locals = λ i. seen_local reads s i (g.locals i);
  wires = λ f t c. map seen_message (g.wires f t c);
}

abbrev pub layout : Setup → plain.Layout
layout s = record { nodes = s.shape.nodes; blocks = s.shape.blocks; home = home_of s }
