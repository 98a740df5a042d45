-- What is gathered of nodes that were settled.
use Rattle.std.proofs.Common.{◌≡◌, ◌∙◌, ℕ, ◌<◌, List, Result, length, subst}
use Rattle.std.specs.Prelude.{IfOk}
use Rattle.std.proofs.lemmas.Result.{IfOk-weaker}
use Rattle.tw_base.specs.declared.entry.Entry.{Entry}
use Rattle.compiled_meaning.specs.Whole.{IsCode}
use Rattle.handler_code.specs.declared.code.Code.{Code}
use Rattle.dsm_runs.specs.Laws.{IsLog}
use Rattle.dsm_runs.specs.Merges.{IsMerge}
use Rattle.dsm_runs.specs.Setups.{IsSetup, Setup}
use Rattle.dsm_runs.specs.Worlds.{World}
use Rattle.gathered_runs.specs.Runs.{GatheredLogsAreARun, GatheredLogsAreLogs, IsToldRun}
use Rattle.still_meaning.specs.Gathers.{GatheredShown, IsGathered, log_of}
use Rattle.still_meaning.specs.Stills.{IsStill, StillShown}
use Rattle.still_nodes.specs.Driving.{HasSettled}

-- of some state
abbrev pub IsOfSome : Setup → Code → GatheredShown → Type 0
IsOfSome s code r = (g : World) × IsGathered s code g r

pub gathered_of :
    {E : Type 0} (told : Result GatheredShown E) (was now : StillShown) (s : Setup) (code : Code) → HasSettled was now 0 →
    was.setup ≡ s → was.code ≡ code → ((g : World) × IsStill was g) →
    IfOk told (λ r. (g : World) → IsStill now g → IsGathered now.setup now.code g r) → IfOk told (λ r. IsOfSome s code r)
gathered_of told was now s code settled setup same state h =
    let ran = settled.goes.ran state.0 state.1 in
    IfOk-weaker told (λ r. (g : World) → IsStill now g → IsGathered now.setup now.code g r) (λ r. IsOfSome s code r) (λ r all. (
      ran.0,
      subst (λ (k : Code). IsGathered s k ran.0 r) (settled.goes.same_code ∙ same)
          (subst (λ (u : Setup). IsGathered u now.code ran.0 r) (settled.goes.same_setup ∙ setup) (all ran.0 ran.2)),
    )) h

pub logs_of :
    {E : Type 0} (told : Result GatheredShown E) (s : Setup) (code : Code) → GatheredLogsAreLogs →
    IfOk told (λ r. IsOfSome s code r) → IfOk told (λ r. (i : ℕ) → i < length r.logs → IsLog i (log_of r.logs i))
logs_of told s code law h =
    IfOk-weaker told (λ r. IsOfSome s code r) (λ r. (i : ℕ) → i < length r.logs → IsLog i (log_of r.logs i))
    (λ r of. law s code of.0 r of.1) h

pub run_of :
    {E : Type 0} (told : Result GatheredShown E) (s : Setup) (code : Code) → GatheredLogsAreARun → IsSetup s →
    IsCode s.protocol code →
    IfOk told (λ r. IsOfSome s code r) →
    IfOk told (λ r. (journal : List Entry) → IsMerge s.shape.nodes (log_of r.logs) journal → IsToldRun s journal r)
run_of told s code law setup is_code h =
    IfOk-weaker told (λ r. IsOfSome s code r)
    (λ r. (journal : List Entry) → IsMerge s.shape.nodes (log_of r.logs) journal → IsToldRun s journal r)
    (λ r of journal merge. law s code of.0 r journal setup is_code of.1 merge) h
