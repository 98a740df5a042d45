-- What is known of handlers, chains and nodes whatever the node, by laws of the crates below.
use Rattle.std.specs.Prelude.{◌≤◌, length}
use Rattle.tw_base.specs.declared.message.Message.{Message}
use Rattle.teapot_tree.specs.Rules.{IsAccepted}
use Rattle.teapot_tree.specs.declared.protocol.Protocol.{Protocol}
use Rattle.teapot_meaning.specs.Does.{Does}
use Rattle.teapot_meaning.specs.Fits.{Fits, IsMessageOf}
use Rattle.teapot_meaning.specs.declared.state.Ended.{Ended}
use Rattle.teapot_meaning.specs.declared.state.Here.{Here}
use Rattle.handler_vm.specs.Apart.{ChainsStayApart}
use Rattle.message_facts.specs.Facts.{EligibleMessagesAreFreed}
use Rattle.value_nodes.specs.Within.{MessagesStayWithin}

-- a handler sends at most 288 messages
abbrev pub HandlersSendFew : Type 0
HandlersSendFew =
    (p : Protocol) (here : Here) (m : Message) (e : Ended) →
    IsAccepted p → Fits p here → IsMessageOf p (length here.words) m → Does p here m e → length e.sends ≤ 288

pub record LowerLaws : Type 0 where
  pub within : MessagesStayWithin
  pub apart : ChainsStayApart
  pub few : HandlersSendFew
  pub eligible : EligibleMessagesAreFreed
