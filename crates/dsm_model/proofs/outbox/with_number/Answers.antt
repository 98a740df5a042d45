use Rattle.std.proofs.Common.{refl}
use Rattle.dsm_runs.proofs.SameMessage.{same_message}
use Rattle.dsm_model.proofs.outbox.with_number.Goals as goal

pub returns : goal.returns
returns c = same_message _ _ refl refl refl refl refl refl refl refl refl refl
