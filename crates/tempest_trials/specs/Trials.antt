-- How a report stands trial, and what is written of it.
use Rattle.std.specs.Prelude.{◌≡◌, ℕ, length, List, Result, Ok, Err}
use Rattle.tw_lex.specs.declared.token.Line.{Line}
use Rattle.dsm_runs.specs.Setups.{Setup}
use Rattle.dsm_runs.specs.Worlds.{World}
use Rattle.report_reader.specs.declared.error.AuditError.{AuditError}
use Rattle.report_reader.specs.declared.error.AuditError.TheVariants as errors
use Rattle.report_reader.specs.declared.error.AuditRule.{AuditRule}
use Rattle.report_reader.specs.declared.lines.Printed.{Printed}
use Rattle.journal_tools.specs.Reading.{report_in}
use Rattle.report_audit.specs.Audits.{audited}
use Rattle.report_audit.specs.Texts.{audit_text, denied_text}
use Rattle.report_replay.specs.Replaying.{Replays}
use Rattle.report_replay.specs.Texts.{replay_text}
use Rattle.tempest_trials.specs.declared.trial.Trial.{Trial}
use Rattle.tempest_trials.specs.declared.trial.Trial.TheVariants as trials

-- the line that denies a report
abbrev pub denial : ℕ → AuditRule → Trial
denial line rule = trials.Denied (denied_text line rule)

-- the trial is a denial, or it is what comes of a report that is not denied
abbrev pub UnlessDenied : {X : Type 0} → (X → Trial → Type 0) → Result X AuditError → Trial → Type 0
UnlessDenied Tells (Ok x) t = Tells x t
UnlessDenied Tells (Err (errors.Denied line rule)) t = t ≡ denial line rule
UnlessDenied Tells (Err errors.Memory) t = ⊥

-- ---- one flat memory

-- a report that was read, beside the flat machine
abbrev pub AuditTells : Setup → Printed → Trial → Type 0
AuditTells s p t = UnlessDenied (λ done t. t ≡ trials.Stands (audit_text done)) (audited s p) t

-- these lines as a report that is audited; a missing line is at `after`
abbrev pub IsAudit : Setup → ℕ → List Line → Trial → Type 0
IsAudit s after lines t = UnlessDenied (λ p t. AuditTells s p t) (report_in s after lines) t

-- ---- events made anew

-- the state after so many events of a report that was read
pub record ReplayTells (count : ℕ) (s : Setup) (p : Printed) (t : Trial) : Type 0 where
  pub end : Result World AuditError
  pub replays : Replays s p count end
  pub tells : UnlessDenied (λ g t. t ≡ trials.Stands (replay_text s g count (length p.events))) end t

-- these lines as a report of which so many events are made anew
abbrev pub IsReplay : ℕ → Setup → ℕ → List Line → Trial → Type 0
IsReplay count s after lines t = UnlessDenied (λ p t. ReplayTells count s p t) (report_in s after lines) t
