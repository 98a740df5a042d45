-- Messages as they are sent, and which wire they are put on.
use Rattle.std.specs.Prelude.{ℕ, suc, ◌+◌, ◌*◌, Bool, true, false, ◌&&◌, nat_eq, length, slice_get, List, [], ◌∷◌, Option, Some}
use Rattle.std.specs.Prelude.{None}
use Rattle.std.specs.List.{filter}
use Rattle.tw_base.specs.declared.message.Chan.{Chan}
use Rattle.tw_base.specs.declared.message.Chan.TheVariants.{Zero, One}
use Rattle.tw_base.specs.declared.message.Kind.{Kind}
use Rattle.tw_base.specs.declared.message.Kind.TheVariants as kinds
use Rattle.tw_base.specs.declared.message.Message.{Message}
use Rattle.teapot_meaning.specs.declared.state.Out.{Out}
use Rattle.teapot_tree.specs.declared.protocol.MessageDecl.{MessageDecl}
use Rattle.teapot_tree.specs.declared.protocol.Protocol.{Protocol}
use Rattle.dsm_runs.specs.Args.{used_args, padded_args, few_args, unused_args}

abbrev pub chan_eq : Chan → Chan → Bool
chan_eq Zero Zero = true
chan_eq One One = true
chan_eq Zero One = false
chan_eq One Zero = false

abbrev pub code : Chan → ℕ
code Zero = 0
code One = 1

-- the place of a wire in a row of wires, by the node at its other end and the channel
abbrev pub place : ℕ → Chan → ℕ
place t c = 2 * t + code c

abbrev pub declared_chan : Option MessageDecl → Chan
declared_chan None = Zero
declared_chan (Some m) = m.chan

-- the channel of a message: the one that its declaration names
abbrev pub chan_of : Protocol → Kind → Chan
chan_of p kinds.RdFault = Zero
chan_of p kinds.WrFault = Zero
chan_of p (kinds.Named n) = declared_chan (slice_get p.messages n)

-- what a handler sends, as a message that has no number yet
abbrev pub message_of : Protocol → ℕ → ℕ → ℕ → Out → Message
message_of p i b stamp o = record {
  kind = o.kind;
  block = b;
  from = i;
  to = o.to;
  chan = chan_of p o.kind;
  number = 0;
  stamp = stamp;
  args = padded_args o.args;
  arg_count = length (used_args o.args);
  payload = o.payload;
  few = few_args o.args;
  unused = unused_args o.args;
}

abbrev pub outgoing : Protocol → ℕ → ℕ → ℕ → List Out → List Message
outgoing p i b stamp [] = []
outgoing p i b stamp (o ∷ os) = message_of p i b stamp o ∷ outgoing p i b stamp os

abbrev pub on_wire : ℕ → ℕ → Chan → Message → Bool
on_wire f t c m = nat_eq m.from f && nat_eq m.to t && chan_eq m.chan c

-- the messages with numbers from k on
abbrev pub numbered : ℕ → List Message → List Message
numbered k [] = []
numbered k (m ∷ ms) = record m { number = k } ∷ numbered (suc k) ms

-- what of these messages comes onto the wire from f to t, whose next number is k
abbrev pub posted : ℕ → ℕ → ℕ → Chan → List Message → List Message
posted k f t c ms = numbered k (filter (on_wire f t c) ms)

-- the message of a refused access: from the node to itself
abbrev pub fault_kind : Bool → Kind
fault_kind true = kinds.WrFault
fault_kind false = kinds.RdFault

abbrev pub fault : Bool → ℕ → ℕ → Message
fault store b i = record {
  kind = fault_kind store;
  block = b;
  from = i;
  to = i;
  chan = Zero;
  number = 0;
  stamp = 0;
  args = padded_args [];
  arg_count = length (used_args []);
  payload = None;
  few = few_args [];
  unused = unused_args [];
}
