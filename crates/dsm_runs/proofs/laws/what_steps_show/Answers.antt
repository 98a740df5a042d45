use Rattle.std.proofs.Common.{refl}
use Rattle.dsm_runs.specs.Setups.{asked}
use Rattle.dsm_runs.proofs.Asking.{asked_well}
use Rattle.dsm_runs.proofs.Facts.{delivery, may_before, untaken}
use Rattle.dsm_runs.proofs.RunStates.{refused_within}
use Rattle.dsm_runs.proofs.Testing.{enabled_decides}
use Rattle.dsm_runs.proofs.laws.what_steps_show.Goals as goal

pub returns : goal.returns
returns c = record {
  deliveries = delivery;
  others = untaken;
  asked = λ s i cpu. asked_well s i cpu (asked s i cpu) refl;
  refused = λ s i cpu store b tag is refused. refused_within s (asked s i cpu) store b tag is
      (asked_well s i cpu (asked s i cpu) refl) refused;
  holds = may_before;
  enabled = enabled_decides;
}
