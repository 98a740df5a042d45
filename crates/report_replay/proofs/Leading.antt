-- The lines of a report, event by event.
use Rattle.std.proofs.Common.{◌≡◌, ℕ, ◌+◌, ◌<◌, Bool, true, false, List, [], ◌∷◌, length, drop, get_or, Option, Some, Result}
use Rattle.std.proofs.Common.{Ok, Err, refl, sym, ap, subst, ◌∙◌}
use Rattle.std.proofs.lemmas.List.{drop_more}
use Rattle.tw_base.specs.declared.entry.Entry.{Entry}
use Rattle.tw_base.specs.declared.entry.Event.{Event}
use Rattle.dsm_runs.specs.Setups.{Setup}
use Rattle.dsm_runs.specs.Tests.{is_enabled}
use Rattle.dsm_runs.specs.Worlds.{Step, World, event_of}
use Rattle.teapot_tree.specs.declared.protocol.Protocol.{Protocol}
use Rattle.tw_lex.specs.declared.token.Token.{Token}
use Rattle.report_reader.specs.declared.error.AuditError.{AuditError}
use Rattle.report_reader.specs.declared.error.AuditError.TheVariants.{Denied}
use Rattle.report_reader.specs.declared.error.AuditRule.TheVariants.{NotEnabled, OtherEntry}
use Rattle.report_reader.specs.declared.error.AuditRule.{AuditRule}
use Rattle.report_reader.specs.Reading.{is_memory}
use Rattle.printed_lines.specs.Saying.{says}
use Rattle.printed_lines.specs.Tokens.{entry_tokens, whats}
use Rattle.report_reader.specs.declared.lines.PrintedLine.{PrintedLine}
use Rattle.printed_lines.specs.Reading.{event_in}
use Rattle.report_replay.specs.Replaying.{AnswersErr, Happens, Leads, Makes, Told, is_told, may_happen}

-- ---- one line

may-named : (s : Setup) (g : World) (o : Option Event) (e : Event) → o ≡ Some e → is_enabled s g e ≡ true →
    may_happen s g o ≡ true
may-named s g o e named test = ap (may_happen s g) named ∙ test

happening : (b : Bool) (s : Setup) (g : World) (k : ℕ) (l : PrintedLine) (Rest : World → Result World AuditError → Type 0)
    (end : Result World AuditError) (e : Entry) (next : World) → b ≡ true →
    Makes s g l e next → Told (is_told s k e l) l (Rest next) end → Happens b s g k l Rest end
happening true s g k l Rest end e next may makes told = (e, next, makes, told)
happening false s g k l Rest end e next may makes told = absurd cc

telling : (b : Bool) (l : PrintedLine) (next : World) → b ≡ true → Told b l (λ end. end ≡ Ok next) (Ok next)
telling true l next e = refl
telling false l next e = absurd cc

denying : (b : Bool) (l : PrintedLine) (Rest : Result World AuditError → Type 0) → b ≡ false →
    Told b l Rest (Err (Denied l.line OtherEntry))
denying false l Rest e = refl
denying true l Rest e = absurd cc

-- the event was made, and the line is its own
pub made-told : (s : Setup) (g : World) (k : ℕ) (l : PrintedLine) (ev : Event) (e : Entry) (next : World) →
    event_in l.tokens ≡ Some ev → is_enabled s g ev ≡ true → event_of e ≡ ev → Step s g e next →
    is_told s k e l ≡ true → Leads s g k (l ∷ []) (Ok next)
made-told s g k l ev e next named test same step told =
    happening (may_happen s g (event_in l.tokens)) s g k l (λ n. Leads s n (k + 1) []) (Ok next) e next
    (may-named s g (event_in l.tokens) ev named test)
    (record { event = named ∙ ap (λ (x : Event). Some x) (sym same); step = step }) (telling (is_told s k e l) l next told)

-- the line says otherwise
pub made-other : (s : Setup) (g : World) (k : ℕ) (l : PrintedLine) (ev : Event) (e : Entry) (next : World) →
    event_in l.tokens ≡ Some ev → is_enabled s g ev ≡ true → event_of e ≡ ev → Step s g e next →
    is_told s k e l ≡ false → Leads s g k (l ∷ []) (Err (Denied l.line OtherEntry))
made-other s g k l ev e next named test same step told =
    happening (may_happen s g (event_in l.tokens)) s g k l (λ n. Leads s n (k + 1) []) (Err (Denied l.line OtherEntry)) e next
    (may-named s g (event_in l.tokens) ev named test)
    (record { event = named ∙ ap (λ (x : Event). Some x) (sym same); step = step })
    (denying (is_told s k e l) l (Leads s next (k + 1) []) told)

not-happening : (b : Bool) (s : Setup) (g : World) (k : ℕ) (l : PrintedLine)
    (Rest : World → Result World AuditError → Type 0) → b ≡ false → Happens b s g k l Rest (Err (Denied l.line NotEnabled))
not-happening false s g k l Rest e = refl
not-happening true s g k l Rest e = absurd cc

-- its event is not enabled, or it names none
pub not-enabled : (s : Setup) (g : World) (k : ℕ) (l : PrintedLine) (o : Option Event) → event_in l.tokens ≡ o →
    may_happen s g o ≡ false → Leads s g k (l ∷ []) (Err (Denied l.line NotEnabled))
not-enabled s g k l o named e =
    not-happening (may_happen s g (event_in l.tokens)) s g k l (λ n. Leads s n (k + 1) []) (ap (may_happen s g) named ∙ e)

-- ---- a line before others

told-on : (b : Bool) (s : Setup) (k : ℕ) (l : PrintedLine) (ls : List PrintedLine) (mid next : World)
    (end : Result World AuditError) → Told b l (Leads s mid k []) (Ok next) → Leads s next k ls end →
    Told b l (Leads s mid k ls) end
told-on true s k l ls mid next end h rest = let same : next ≡ mid = cc h in subst (λ (g : World). Leads s g k ls end) same rest
told-on false s k l ls mid next end h rest = absurd (cc h)

goes-on : (b : Bool) (s : Setup) (g : World) (k : ℕ) (l : PrintedLine) (ls : List PrintedLine) (next : World)
    (end : Result World AuditError) → Happens b s g k l (λ n. Leads s n (k + 1) []) (Ok next) →
    Leads s next (k + 1) ls end → Happens b s g k l (λ n. Leads s n (k + 1) ls) end
goes-on true s g k l ls next end h rest = (h.0, h.1, h.2, told-on (is_told s k h.0 l) s (k + 1) l ls h.1 next end h.3 rest)
goes-on false s g k l ls next end h rest = absurd (cc h)

pub leads-on : (s : Setup) (g : World) (k : ℕ) (l : PrintedLine) (ls : List PrintedLine) (next : World)
    (end : Result World AuditError) → Leads s g k (l ∷ []) (Ok next) → Leads s next (k + 1) ls end →
    Leads s g k (l ∷ ls) end
leads-on s g k l ls next end h rest = goes-on (may_happen s g (event_in l.tokens)) s g k l ls next end h rest

told-off : (b : Bool) (s : Setup) (k : ℕ) (l : PrintedLine) (ls : List PrintedLine) (mid : World) (e : AuditError) →
    Told b l (Leads s mid k []) (Err e) → Told b l (Leads s mid k ls) (Err e)
told-off true s k l ls mid e h = absurd (cc h)
told-off false s k l ls mid e h = h

stops-there : (b : Bool) (s : Setup) (g : World) (k : ℕ) (l : PrintedLine) (ls : List PrintedLine) (e : AuditError) →
    Happens b s g k l (λ n. Leads s n (k + 1) []) (Err e) →
    Happens b s g k l (λ n. Leads s n (k + 1) ls) (Err e)
stops-there true s g k l ls e h = (h.0, h.1, h.2, told-off (is_told s k h.0 l) s (k + 1) l ls h.1 e h.3)
stops-there false s g k l ls e h = h

pub leads-off : (s : Setup) (g : World) (k : ℕ) (l : PrintedLine) (ls : List PrintedLine) (e : AuditError) →
    Leads s g k (l ∷ []) (Err e) → Leads s g k (l ∷ ls) (Err e)
leads-off s g k l ls e h = stops-there (may_happen s g (event_in l.tokens)) s g k l ls e h

-- ---- the lines of a report

line-at : (lines : List PrintedLine) (k : ℕ) (l : PrintedLine) → k < length lines → l ≡ get_or lines k l →
    drop k lines ≡ l ∷ drop (k + 1) lines
line-at lines k l lt at = drop_more lines k l lt ∙ ap (λ (x : PrintedLine). x ∷ drop (k + 1) lines) (sym at)

pub turn-on : (s t : Setup) (g : World) (lines : List PrintedLine) (k : ℕ) (l : PrintedLine) (next : World)
    (end : Result World AuditError) → t ≡ s → k < length lines → l ≡ get_or lines k l →
    Leads t g k (l ∷ []) (Ok next) → Leads s next (k + 1) (drop (k + 1) lines) end → Leads s g k (drop k lines) end
turn-on s t g lines k l next end same lt at h rest =
    subst (λ (ls : List PrintedLine). Leads s g k ls end) (sym (line-at lines k l lt at))
    (leads-on s g k l (drop (k + 1) lines) next end (subst (λ (x : Setup). Leads x g k (l ∷ []) (Ok next)) same h) rest)

pub turn-off : (s t : Setup) (g : World) (lines : List PrintedLine) (k : ℕ) (l : PrintedLine) (e : AuditError) → t ≡ s →
    k < length lines → l ≡ get_or lines k l → Leads t g k (l ∷ []) (Err e) →
    Leads s g k (drop k lines) (Err e)
turn-off s t g lines k l e same lt at h =
    subst (λ (ls : List PrintedLine). Leads s g k ls (Err e)) (sym (line-at lines k l lt at))
    (leads-off s g k l (drop (k + 1) lines) e (subst (λ (x : Setup). Leads x g k (l ∷ []) (Err e)) same h))

-- whether a line is its event's own, as it is tested
pub told-by : (s : Setup) (k : ℕ) (e : Entry) (l : PrintedLine) (p : Protocol) (ts : List Token) (r b : Bool) →
    p ≡ s.protocol → ts ≡ l.tokens → r ≡ says (entry_tokens p (k, e)) (whats ts) → r ≡ b → is_told s k e l ≡ b
told-by s k e l p ts r b same is asked test =
    ap (λ (q : Protocol). says (entry_tokens q (k, e)) (whats l.tokens)) (sym same)
    ∙ ap (λ (us : List Token). says (entry_tokens p (k, e)) (whats us)) (sym is) ∙ sym asked ∙ test

-- ---- answers

pub answers-denied : (e : AuditError) (line : ℕ) (rule : AuditRule) (Due : Result World AuditError → Type 0) →
    e ≡ Denied line rule → Due (Err (Denied line rule)) → AnswersErr (is_memory e) e Due
answers-denied e line rule Due is h = subst (λ (x : AuditError). AnswersErr (is_memory x) x Due) (sym is) h

pub answers-along : (b : Bool) (e : AuditError) (Part Whole : Result World AuditError → Type 0) →
    (Part (Err e) → Whole (Err e)) → AnswersErr b e Part → AnswersErr b e Whole
answers-along true e Part Whole f h = tt
answers-along false e Part Whole f h = f h
