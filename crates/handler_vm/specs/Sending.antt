-- The messages that a run sends.
use Rattle.std.specs.Prelude.{ℕ, ◌≡◌, List, Option, Some, None, length, take}
use Rattle.tw_base.specs.declared.message.Chan.{Chan}
use Rattle.tw_base.specs.declared.message.Chan.TheVariants.{Zero}
use Rattle.tw_base.specs.declared.message.Message.{Message}
use Rattle.teapot_tree.specs.declared.protocol.MessageDecl.{MessageDecl}
use Rattle.teapot_tree.specs.declared.protocol.Protocol.{Protocol}
use Rattle.teapot_meaning.specs.Fits.{declared_as}
use Rattle.teapot_meaning.specs.declared.state.Out.{Out}

-- the messages, and how many there is room for
pub record Sends : Type 0 where
  pub sent : List Message
  pub room : ℕ

-- what of a message the handler says
abbrev pub out_of : Message → Out
out_of m = record { to = m.to; kind = m.kind; args = take m.arg_count m.args; payload = m.payload }

-- the same message to another node
abbrev pub addressed : Message → ℕ → Message
addressed m to = record m { to = to }

abbrev pub chan_in : Option MessageDecl → Chan
chan_in (Some m) = m.chan
chan_in None = Zero

-- a message of this node for this block, on the channel of its declaration, that is not on its wire yet
pub record IsUnsent (p : Protocol) (me block : ℕ) (m : Message) : Type 0 where
  pub from : m.from ≡ me
  pub for_block : m.block ≡ block
  pub chan : m.chan ≡ chan_in (declared_as p m.kind)
  pub number : m.number ≡ 0
  pub stamp : m.stamp ≡ 0
  pub places : length m.args ≡ 4
