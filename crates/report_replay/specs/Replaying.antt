-- The events of a report, made again on the model.
use Rattle.std.specs.Prelude.{◌≡◌, ℕ, ◌+◌, nat_lt, if◌then◌else◌, Bool, true, false, List, [], ◌∷◌, length, take, Option, Some}
use Rattle.std.specs.Prelude.{None, Result, Ok, Err}
use Rattle.tw_base.specs.Answers.{◌>>=◌}
use Rattle.tw_base.specs.declared.entry.Entry.{Entry}
use Rattle.tw_base.specs.declared.entry.Event.{Event}
use Rattle.dsm_runs.specs.Setups.{Setup}
use Rattle.dsm_runs.specs.Tests.{is_enabled}
use Rattle.dsm_runs.specs.Worlds.{Step, World, event_of, start}
use Rattle.report_reader.specs.declared.error.AuditError.{AuditError}
use Rattle.report_reader.specs.declared.error.AuditError.TheVariants.{Denied}
use Rattle.report_reader.specs.declared.error.AuditRule.TheVariants.{NotEnabled, OtherEntry, TooFew}
use Rattle.report_reader.specs.declared.lines.Printed.{Printed}
use Rattle.report_reader.specs.declared.lines.PrintedLine.{PrintedLine}
use Rattle.printed_lines.specs.Reading.{event_in}
use Rattle.printed_lines.specs.Saying.{says}
use Rattle.printed_lines.specs.Tokens.{entry_tokens, whats}

-- ---- an answer that a relation determines

abbrev pub AnswersErr : {Y E : Type 0} → Bool → E → (Result Y E → Type 0) → Type 0
AnswersErr true e IsDue = Unit {0}
AnswersErr false e IsDue = IsDue (Err e)

-- the answer, seen by view, is one that is due, unless memory ran out
abbrev pub Answers : {X Y E : Type 0} → (E → Bool) → (X → Y) → Result X E → (Result Y E → Type 0) → Type 0
Answers is_memory view (Ok x) IsDue = IsDue (Ok (view x))
Answers is_memory view (Err e) IsDue = AnswersErr (is_memory e) e IsDue

-- ---- one line

-- the event that a line names is enabled
abbrev pub may_happen : Setup → World → Option Event → Bool
may_happen s g None = false
may_happen s g (Some e) = is_enabled s g e

-- the event of this line gives this entry, and leads to this state
pub record Makes (s : Setup) (g : World) (l : PrintedLine) (e : Entry) (next : World) : Type 0 where
  pub event : event_in l.tokens ≡ Some (event_of e)
  pub step : Step s g e next

-- the line is the own line of event k, which gave this entry
abbrev pub is_told : Setup → ℕ → Entry → PrintedLine → Bool
is_told s k e l = says (entry_tokens s.protocol (k, e)) (whats l.tokens)

-- where the line is its event's own, what the lines behind it come to
abbrev pub Told : Bool → PrintedLine → (Result World AuditError → Type 0) → Result World AuditError → Type 0
Told true l Rest end = Rest end
Told false l Rest end = end ≡ Err (Denied l.line OtherEntry)

-- where the event of the line is enabled, it is made
abbrev pub Happens : Bool → Setup → World → ℕ → PrintedLine → (World → Result World AuditError → Type 0) →
    Result World AuditError → Type 0
Happens false s g k l Rest end = end ≡ Err (Denied l.line NotEnabled)
Happens true s g k l Rest end = (e : Entry) × (next : World) × Makes s g l e next × Told (is_told s k e l) l (Rest next) end

-- ---- lines in their order

-- The lines of events k, k + 1 .. lead from g to this end: a state, or the first line whose event is not enabled or gives
-- another entry.
abbrev pub Leads : Setup → World → ℕ → List PrintedLine → Result World AuditError → Type 0
Leads s g k [] end = end ≡ Ok g
Leads s g k (l ∷ ls) end = Happens (may_happen s g (event_in l.tokens)) s g k l (λ next. Leads s next (k + 1) ls) end

-- a report that has fewer events is denied at its history
abbrev pub with_events : Printed → ℕ → World → Result World AuditError
with_events p k g = if nat_lt (length p.events) k then Err (Denied p.history.line TooFew) else Ok g

-- The first k events of a report, made from the start, come to this end.
pub record Replays (s : Setup) (p : Printed) (k : ℕ) (end : Result World AuditError) : Type 0 where
  pub made : Result World AuditError
  pub leads : Leads s (start s) 0 (take k p.events) made
  pub enough : end ≡ (made >>= λ g. with_events p k g)
