-- A block that fits stays so.
use Rattle.std.specs.Prelude.{◌≡◌, length}
use Rattle.tw_base.specs.Lists.{Each}
use Rattle.tw_base.specs.declared.message.Message.{Message}
use Rattle.teapot_tree.specs.Rules.{IsAccepted}
use Rattle.teapot_tree.specs.declared.protocol.Protocol.{Protocol}
use Rattle.teapot_meaning.specs.Does.{HasOneMeaning}
use Rattle.teapot_meaning.specs.Fits.{Fits, IsMessageOf, IsSendOf}
use Rattle.teapot_meaning.specs.declared.state.Ended.{Ended}
use Rattle.teapot_meaning.specs.declared.state.Here.{Here}

-- the block fits again, has as many words, and what was sent are messages of the protocol
pub record FitsAgain (p : Protocol) (here : Here) (e : Ended) : Type 0 where
  pub fits : Fits p e.here
  pub words : length e.here.words ≡ length here.words
  pub sends : Each (IsSendOf p (length here.words)) e.sends

-- there is exactly one end, and there the block fits again
pub record StaysFit (p : Protocol) (here : Here) (m : Message) : Type 0 where
  pub meaning : HasOneMeaning p here m
  pub again : FitsAgain p here meaning.end

-- Under an accepted protocol a block that fits stays so, whatever message of the protocol it handles.
abbrev pub FittingBlocksStayFit : Type 0
FittingBlocksStayFit =
    (p : Protocol) (here : Here) (m : Message) → IsAccepted p → Fits p here → IsMessageOf p (length here.words) m →
    StaysFit p here m
