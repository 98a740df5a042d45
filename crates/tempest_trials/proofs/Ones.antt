-- What is written of a report is one.
use Rattle.std.proofs.Common.{◌≡◌, ℕ, length, Result, Ok, Err, sym, subst, ◌∙◌}
use Rattle.dsm_runs.specs.Setups.{Setup}
use Rattle.dsm_runs.specs.Worlds.{World}
use Rattle.report_reader.specs.declared.error.AuditError.{AuditError}
use Rattle.report_reader.specs.declared.error.AuditError.TheVariants as errors
use Rattle.report_reader.specs.declared.lines.Printed.{Printed}
use Rattle.journal_tools.specs.Reading.{report_in}
use Rattle.report_audit.specs.Audits.{audited}
use Rattle.report_audit.specs.Texts.{audit_text}
use Rattle.report_replay.specs.Texts.{replay_text}
use Rattle.replay_laws.specs.Laws.{ReplaysHaveOneEnd}
use Rattle.tempest_trials.specs.declared.trial.Trial.{Trial}
use Rattle.tempest_trials.specs.declared.trial.Trial.TheVariants as trials
use Rattle.tempest_trials.specs.Laws.{TrialsAreOne}
use Rattle.tempest_trials.specs.Trials.{AuditTells, ReplayTells, UnlessDenied}

one_unless : {X : Type 0} (Tells : X → Trial → Type 0) (r : Result X AuditError) (t u : Trial) →
    ((x : X) → Tells x t → Tells x u → t ≡ u)
    → UnlessDenied Tells r t → UnlessDenied Tells r u → t ≡ u
one_unless Tells (Ok x) t u one h k = one x h k
one_unless Tells (Err (errors.Denied line rule)) t u one h k = h ∙ sym k
one_unless Tells (Err errors.Memory) t u one h k = absurd h

one_audit : (s : Setup) (p : Printed) (t u : Trial) → AuditTells s p t → AuditTells s p u → t ≡ u
one_audit s p t u h k = one_unless (λ done t. t ≡ trials.Stands (audit_text done)) (audited s p) t u (λ done x y. x ∙ sym y) h k

one_replay : ReplaysHaveOneEnd → (count : ℕ) (s : Setup) (p : Printed) (t u : Trial) → ReplayTells count s p t →
    ReplayTells count s p u → t ≡ u
one_replay one count s p t u h k =
    let Tells : World → Trial → Type 0 = λ g t. t ≡ trials.Stands (replay_text s g count (length p.events)) in
    let other : UnlessDenied Tells h.end u = subst (λ (r : Result World AuditError). UnlessDenied Tells r u)
    (one s p count k.end h.end k.replays h.replays) k.tells in
    one_unless Tells h.end t u (λ g x y. x ∙ sym y) h.tells other

pub trials_one : ReplaysHaveOneEnd → TrialsAreOne
trials_one one = record {
  audit = λ s after lines t u h k. one_unless (λ p t. AuditTells s p t) (report_in s after lines) t u
      (λ p x y. one_audit s p t u x y) h k;
  replay = λ count s after lines t u h k. one_unless (λ p t. ReplayTells count s p t) (report_in s after lines) t u
      (λ p x y. one_replay one count s p t u x y) h k;
}
