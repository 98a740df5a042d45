-- The lines of a report lead to one end.
use Rattle.std.proofs.Common.{◌≡◌, ℕ, ◌+◌, Bool, true, false, List, [], ◌∷◌, take, Result, sym, ap, subst, ◌∙◌}
use Rattle.tw_base.specs.Answers.{◌>>=◌}
use Rattle.tw_base.specs.declared.entry.Entry.{Entry}
use Rattle.dsm_runs.specs.Setups.{Setup}
use Rattle.dsm_runs.specs.Worlds.{Step, World, event_of, start}
use Rattle.dsm_runs.proofs.OneEnd.{step_world}
use Rattle.dsm_runs.proofs.OneEntry.{step_entry}
use Rattle.report_reader.specs.declared.error.AuditError.{AuditError}
use Rattle.report_reader.specs.declared.lines.PrintedLine.{PrintedLine}
use Rattle.printed_lines.specs.Reading.{event_in}
use Rattle.report_replay.specs.Replaying.{Happens, Leads, Makes, Told, is_told, may_happen, with_events}
use Rattle.replay_laws.specs.Laws.{ReplaysHaveOneEnd}

same-entry : (s : Setup) (g : World) (l : PrintedLine) (e f : Entry) (m n : World) → Makes s g l e m → Makes s g l f n → e ≡ f
same-entry s g l e f m n a b =
    let same : event_of e ≡ event_of f = cc (a.event, b.event) in step_entry s g e f m n same a.step b.step

same-world : (s : Setup) (g : World) (l : PrintedLine) (e f : Entry) (m n : World) → Makes s g l e m → Makes s g l f n → m ≡ n
same-world s g l e f m n a b =
    step_world s g e m n a.step (subst (λ (x : Entry). Step s g x n) (sym (same-entry s g l e f m n a b)) b.step)

told-one : (b : Bool) (l : PrintedLine) (Rest : Result World AuditError → Type 0) (x y : Result World AuditError) →
    (Rest x → Rest y → x ≡ y) → Told b l Rest x → Told b l Rest y → x ≡ y
told-one true l Rest x y one h k = one h k
told-one false l Rest x y one h k = h ∙ sym k

happens-one : (b : Bool) (s : Setup) (g : World) (k : ℕ) (l : PrintedLine) (Rest : World → Result World AuditError → Type 0)
    (x y : Result World AuditError) →
    ((n : World) → Rest n x → Rest n y → x ≡ y) → Happens b s g k l Rest x → Happens b s g k l Rest y → x ≡ y
happens-one false s g k l Rest x y one h j = h ∙ sym j
happens-one true s g k l Rest x y one h j =
    let entry = same-entry s g l h.0 j.0 h.1 j.1 h.2 j.2 in
    let world = same-world s g l h.0 j.0 h.1 j.1 h.2 j.2 in
    told-one (is_told s k h.0 l) l (Rest h.1) x y (one h.1) h.3
    (subst (λ (n : World). Told (is_told s k h.0 l) l (Rest n) y) (sym world)
    (subst (λ (e : Entry). Told (is_told s k e l) l (Rest j.1) y) (sym entry) j.3))

leads-one : (s : Setup) (g : World) (k : ℕ) (lines : List PrintedLine) (x y : Result World AuditError) → Leads s g k lines x →
    Leads s g k lines y → x ≡ y
leads-one s g k [] x y h j = h ∙ sym j
leads-one s g k (l ∷ ls) x y h j =
    happens-one (may_happen s g (event_in l.tokens)) s g k l (λ n. Leads s n (k + 1) ls) x y
    (λ n. leads-one s n (k + 1) ls x y) h j

pub replays-one : ReplaysHaveOneEnd
replays-one s p k x y h j =
    h.enough ∙ ap (λ (r : Result World AuditError). r >>= λ g. with_events p k g)
    (leads-one s (start s) 0 (take k p.events) h.made j.made h.leads j.leads) ∙ sym j.enough
