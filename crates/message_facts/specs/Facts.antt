-- What every message leaves, whatever the protocol.
use Rattle.std.specs.Prelude.{◌≡◌, true, false, None}
use Rattle.tw_base.specs.Lists.{Each}
use Rattle.tw_base.specs.declared.message.Message.{Message}
use Rattle.teapot_tree.specs.declared.protocol.Protocol.{Protocol}
use Rattle.teapot_tree.specs.Rules.{carries}
use Rattle.teapot_meaning.specs.Does.{Does}
use Rattle.teapot_meaning.specs.Fits.{declared_as}
use Rattle.teapot_meaning.specs.declared.state.Ended.{Ended}
use Rattle.teapot_meaning.specs.declared.state.Here.{Here}
use Rattle.teapot_meaning.specs.declared.state.Kept.TheVariants.{Eligible}
use Rattle.teapot_meaning.specs.declared.state.Out.{Out}

-- a message that was deferred and is eligible at once: what made it so made all deferred messages of the block eligible
abbrev pub EligibleMessagesAreFreed : Type 0
EligibleMessagesAreFreed =
    (p : Protocol) (here : Here) (m : Message) (e : Ended) → Does p here m e → e.kept ≡ Eligible → e.freed ≡ true

-- a message that declares no data has no payload
abbrev pub IsBare : Protocol → Out → Type 0
IsBare p o = carries (declared_as p o.kind) ≡ false → o.payload ≡ None

abbrev pub SendsAreBare : Type 0
SendsAreBare = (p : Protocol) (here : Here) (m : Message) (e : Ended) → Does p here m e → Each (IsBare p) e.sends
