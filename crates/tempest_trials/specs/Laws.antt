-- What is written of a report is one, and want of memory is no property of it.
use Rattle.std.specs.Prelude.{◌≡◌, ℕ, List, Err}
use Rattle.tw_lex.specs.declared.token.Line.{Line}
use Rattle.dsm_runs.specs.Setups.{Setup}
use Rattle.report_reader.specs.declared.error.AuditError.TheVariants.{Memory}
use Rattle.report_reader.specs.declared.lines.Printed.{Printed}
use Rattle.journal_tools.specs.Reading.{report_in}
use Rattle.report_audit.specs.Audits.{audited}
use Rattle.report_replay.specs.Replaying.{Replays}
use Rattle.tempest_trials.specs.declared.trial.Trial.{Trial}
use Rattle.tempest_trials.specs.Trials.{IsAudit, IsReplay}

-- a report has one audit, and so many of its events are made anew in one way
pub record TrialsAreOne : Type 0 where
  pub audit : (s : Setup) (after : ℕ) (lines : List Line) (t u : Trial) → IsAudit s after lines t → IsAudit s after lines u →
      t ≡ u
  pub replay : (count : ℕ) (s : Setup) (after : ℕ) (lines : List Line) (t u : Trial) → IsReplay count s after lines t →
      IsReplay count s after lines u → t ≡ u

-- no report is due want of memory
pub record TrialsAreNoMemory : Type 0 where
  pub report : (s : Setup) (after : ℕ) (lines : List Line) → ¬ (report_in s after lines ≡ Err Memory)
  pub audit : (s : Setup) (p : Printed) → ¬ (audited s p ≡ Err Memory)
  pub replay : (s : Setup) (p : Printed) (count : ℕ) → ¬ Replays s p count (Err Memory)
