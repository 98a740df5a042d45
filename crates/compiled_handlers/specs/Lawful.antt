-- What holds of an accepted protocol and its code.
use Rattle.std.specs.Prelude.{◌+◌, ◌*◌, ◌≤◌, length}
use Rattle.tw_base.specs.declared.message.Message.{Message}
use Rattle.teapot_tree.specs.declared.protocol.Protocol.{Protocol}
use Rattle.teapot_meaning.specs.Does.{Does}
use Rattle.teapot_meaning.specs.Fits.{Fits, IsMessageOf}
use Rattle.teapot_meaning.specs.Stays.{StaysFit}
use Rattle.teapot_meaning.specs.declared.state.Ended.{Ended}
use Rattle.teapot_meaning.specs.declared.state.Here.{Here}
use Rattle.teapot_sends.specs.Counts.{steps}
use Rattle.handler_code.specs.declared.code.Code.{Code}
use Rattle.compiled_meaning.specs.Whole.{DoesWhatIsMeant, TakesFewOpsAt}

-- A message has one meaning at a block that fits, which leaves a block that fits, with few sends and after few steps; and
-- the code does what is meant, in few ops a step.
pub record IsLawful (p : Protocol) (code : Code) : Type 0 where
  pub fit : (here : Here) (m : Message) → Fits p here → IsMessageOf p (length here.words) m → StaysFit p here m
  pub sends : (here : Here) (m : Message) (e : Ended) → Fits p here → IsMessageOf p (length here.words) m → Does p here m e →
      length e.sends ≤ 288
  pub soon : (here : Here) (m : Message) (e : Ended) → Fits p here → (d : Does p here m e) →
      steps d.goes ≤ 73728 * length code.ops + 1
  pub meant : DoesWhatIsMeant p code
  pub few : TakesFewOpsAt p code
