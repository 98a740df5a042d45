-- No report is due want of memory.
use Rattle.std.proofs.Common.{◌≡◌, ℕ, ◌+◌, Bool, true, false, cond, nat_lt, List, [], ◌∷◌, drop, length, take, Option, Some}
use Rattle.std.proofs.Common.{None, Result, Ok, Err, ap}
use Rattle.tw_base.specs.Answers.{◌>>=◌}
use Rattle.tw_base.specs.Shape.{Sizes}
use Rattle.tw_base.specs.declared.entry.Act.{Act}
use Rattle.tw_lex.specs.declared.token.Line.{Line}
use Rattle.mini_asm.specs.Run.{Machine}
use Rattle.mini_asm.specs.Spelling.{number_at}
use Rattle.teapot_tree.specs.declared.protocol.Protocol.{Protocol}
use Rattle.dsm_runs.specs.Flat.{flat_step}
use Rattle.dsm_runs.specs.Setups.{Setup}
use Rattle.dsm_runs.specs.Worlds.{World, start}
use Rattle.report_reader.specs.declared.error.AuditError.{AuditError}
use Rattle.report_reader.specs.declared.error.AuditError.TheVariants.{Denied, Memory}
use Rattle.report_reader.specs.declared.error.AuditRule.{AuditRule}
use Rattle.report_reader.specs.declared.error.AuditRule.TheVariants.{BadNumber, TooFew, WrongAct, WrongHistory, WrongNode}
use Rattle.report_reader.specs.declared.error.AuditRule.TheVariants.{WrongPrint, WrongRegister, WrongWord}
use Rattle.report_reader.specs.declared.kind.LineKind.TheVariants as kinds
use Rattle.report_reader.specs.declared.lines.Printed.{Printed}
use Rattle.report_reader.specs.declared.lines.PrintedLine.{PrintedLine}
use Rattle.report_reader.specs.Forms.{head_form, is_line}
use Rattle.report_reader.specs.Slots.{fits}
use Rattle.report_reader.specs.Reading.{at_end, ended_if, history_in, is_number, misfit, numbered, past_counts, past_head}
use Rattle.report_reader.specs.Reading.{past_if, past_nodes, read_in, told_if, told_in, with_end}
use Rattle.printed_lines.specs.Reading.{event_in, node_of}
use Rattle.printed_lines.specs.Saying.{says}
use Rattle.printed_lines.specs.Tokens.{act_tokens, whats}
use Rattle.report_audit.specs.declared.execute.Executed.{Executed}
use Rattle.report_audit.specs.Audits.{audited, pass, wrong_history, wrong_print, wrong_register, wrong_word}
use Rattle.report_audit.specs.Executing.{begun, executed, executed_as, executed_at, executed_if, is_completed, line_executed}
use Rattle.report_audit.specs.Nodes.{wrong_node}
use Rattle.report_replay.specs.Replaying.{Happens, Leads, Replays, Told, is_told, may_happen, with_events}
use Rattle.journal_tools.specs.Reading.{report_in}
use Rattle.tempest_trials.specs.Laws.{TrialsAreNoMemory}

-- this is not want of memory
abbrev Never : {A : Type 0} → Result A AuditError → Type 0
Never r = ¬ (r ≡ Err Memory)

never-ok : {A : Type 0} (x : A) → Never {A = A} (Ok x)
never-ok x h = absurd (cc h)

never-denied : {A : Type 0} (line : ℕ) (rule : AuditRule) → Never {A = A} (Err (Denied line rule))
never-denied line rule h = absurd (cc h)

err-same : {A : Type 0} (e k : AuditError) → ◌≡◌ {A = Result A AuditError} (Err e) (Err k) → e ≡ k
err-same e k h = cc h

never-then : {A B : Type 0} (r : Result A AuditError) (f : A → Result B AuditError) → Never r → ((x : A) → Never (f x)) →
    Never (r >>= f)
never-then (Ok x) f n m h = m x h
never-then (Err e) f n m h = n (ap Err (err-same e Memory h))

or-denied : {A : Type 0} (b : Bool) (x : A) (line : ℕ) (rule : AuditRule) → Never {A = A} (cond b (Ok x) (Err (Denied line rule)))
or-denied true x line rule = never-ok x
or-denied false x line rule = never-denied line rule

-- ---- the lines of a report

misfit-never : {A : Type 0} (after : ℕ) (lines : List Line) → Never {A = A} (Err (misfit after lines))
misfit-never after [] h = absurd (cc h)
misfit-never after (l ∷ ls) h = absurd (cc h)

past-never : (holds : Bool) (after : ℕ) (lines rest : List Line) → Never (past_if holds after lines rest)
past-never true after lines rest = never-ok rest
past-never false after lines rest = misfit-never after lines

head-never : (version : ℕ) (shape : Sizes) (after : ℕ) (lines : List Line) → Never (past_head version shape after lines)
unfolding past_head
head-never version shape after [] = misfit-never after []
head-never version shape after (l ∷ ls) = past-never (fits shape 0 (head_form version shape) l.tokens) after (l ∷ ls) ls

nodes-never : (shape : Sizes) (after : ℕ) (lines : List Line) → Never (past_nodes shape after lines)
unfolding past_nodes
nodes-never shape after lines = past-never _ after _ _

counts-never : (shape : Sizes) (after : ℕ) (lines : List Line) → Never (past_counts shape after lines)
unfolding past_counts
counts-never shape after lines = past-never _ after _ _

end-never : (history : Line) (after : ℕ) (lines : List Line) → Never (at_end history after lines)
end-never history after [] = never-ok history
end-never history after (l ∷ ls) = misfit-never after (l ∷ ls)

ended-never : (holds : Bool) (history : Line) (after : ℕ) (l : Line) (ls : List Line) → Never (ended_if holds history after l ls)
ended-never true history after l ls = end-never history after ls
ended-never false history after l ls = misfit-never after (l ∷ ls)

with-end-never : (shape : Sizes) (history : Line) (after : ℕ) (lines : List Line) → Never (with_end shape history after lines)
with-end-never shape history after [] = misfit-never after []
with-end-never shape history after (l ∷ ls) = ended-never (is_line shape kinds.End 0 l.tokens) history after l ls

told-if-never : (holds : Bool) (shape : Sizes) (after : ℕ) (l : Line) (ls : List Line) → Never (told_if holds shape after l ls)
told-if-never true shape after l ls = with-end-never shape l after ls
told-if-never false shape after l ls = misfit-never after (l ∷ ls)

history-never : (shape : Sizes) (after : ℕ) (lines : List Line) → Never (history_in shape after lines)
unfolding history_in
history-never shape after [] = misfit-never after []
history-never shape after (l ∷ ls) = told-if-never (is_line shape kinds.History 0 l.tokens) shape after l ls

numbered-never : (k : ℕ) (lines : List Line) → Never (numbered k lines)
unfolding numbered
numbered-never k [] = never-ok k
numbered-never k (l ∷ ls) = go (is_number k (number_at l.tokens 1)) (numbered-never (k + 1) ls)
  where
    go : (b : Bool) → Never (numbered (k + 1) ls) → Never (cond b (numbered (k + 1) ls) (Err (Denied l.number BadNumber)))
    go true n = n
    go false n = never-denied l.number BadNumber

told-never : (shape : Sizes) (after : ℕ) (lines : List Line) → Never (told_in shape after lines)
unfolding told_in
told-never shape after lines =
    never-then _ _ (nodes-never shape after _) (λ counts.
    never-then _ _ (counts-never shape after counts) (λ events.
    never-then _ _ (history-never shape after _) (λ history.
    never-then _ _ (numbered-never 0 _) (λ count. never-ok _))))

report-never : (s : Setup) (after : ℕ) (lines : List Line) → Never (report_in s after lines)
unfolding read_in
report-never s after lines = never-then _ _ (head-never s.version s.shape after lines) (λ rest. told-never s.shape after rest)

-- ---- one flat memory

as-never : (p : Protocol) (x : Executed) (l : PrintedLine) (node : ℕ) (did : Option (Act × Machine)) →
    Never (executed_as p x l node did)
as-never p x l node None = never-denied l.line WrongAct
as-never p x l node (Some did) = or-denied (says (act_tokens p did.0) (whats (drop 6 l.tokens))) _ l.line WrongAct

at-never : (p : Protocol) (x : Executed) (l : PrintedLine) (node : Option ℕ) → Never (executed_at p x l node)
at-never p x l None = never-denied l.line WrongAct
at-never p x l (Some node) = as-never p x l node (flat_step x.flat node)

if-never : (b : Bool) (p : Protocol) (x : Executed) (l : PrintedLine) → Never (executed_if b p x l)
if-never true p x l = at-never p x l (node_of l.tokens)
if-never false p x l = never-ok x

executed-never : (p : Protocol) (x : Executed) (lines : List PrintedLine) → Never (executed p x lines)
unfolding executed line_executed
executed-never p x [] = never-ok x
executed-never p x (l ∷ ls) = never-then _ _ (if-never (is_completed l.tokens) p x l) (λ next. executed-never p next ls)

pass-never : (rule : AuditRule) (line : Option ℕ) → Never (pass rule line)
pass-never rule None = never-ok tt
pass-never rule (Some line) = never-denied line rule

audited-never : (s : Setup) (p : Printed) → Never (audited s p)
unfolding audited
audited-never s p =
    never-then _ _ (executed-never s.protocol (begun s) p.events) (λ x.
    never-then _ _ (pass-never WrongPrint (wrong_print x p)) (λ a.
    never-then _ _ (pass-never WrongWord (wrong_word x p)) (λ b.
    never-then _ _ (pass-never WrongRegister (wrong_register s x p)) (λ c.
    never-then _ _ (pass-never WrongNode (wrong_node p.events x.flat p.nodes)) (λ d.
    never-then _ _ (pass-never WrongHistory (wrong_history p)) (λ e. never-ok _))))))

-- ---- events made anew

told-line-never : (own : Bool) (l : PrintedLine) (Rest : Result World AuditError → Type 0) (r : Result World AuditError) →
    (Rest r → Never r) → Told own l Rest r → Never r
told-line-never true l Rest r n h e = n h e
told-line-never false l Rest r n h e = absurd (cc (h, e))

happens-never : (may : Bool) (s : Setup) (g : World) (k : ℕ) (l : PrintedLine) (ls : List PrintedLine)
    (r : Result World AuditError)
    → ((next : World) → Leads s next (k + 1) ls r → Never r) → Happens may s g k l (λ next. Leads s next (k + 1) ls) r → Never r
happens-never false s g k l ls r n h e = absurd (cc (h, e))
happens-never true s g k l ls r n h e = told-line-never (is_told s k h.0 l) l (Leads s h.1 (k + 1) ls) r (n h.1) h.3 e

leads-never : (s : Setup) (g : World) (k : ℕ) (ls : List PrintedLine) (r : Result World AuditError) → Leads s g k ls r → Never r
leads-never s g k [] r h e = absurd (cc (h, e))
leads-never s g k (l ∷ ls) r h e = happens-never (may_happen s g (event_in l.tokens)) s g k l ls r
    (λ next x. leads-never s next (k + 1) ls r x) h e

events-never : (p : Printed) (count : ℕ) (g : World) → Never (with_events p count g)
events-never p count g = go (nat_lt (length p.events) count)
  where
    go : (b : Bool) → Never {A = World} (cond b (Err (Denied p.history.line TooFew)) (Ok g))
    go true = never-denied p.history.line TooFew
    go false = never-ok g

replays-never : (s : Setup) (p : Printed) (count : ℕ) (r : Result World AuditError) → Replays s p count r → Never r
replays-never s p count r h e =
    let there : (h.made >>= λ g. with_events p count g) ≡ Err Memory = cc (h.enough, e) in
    never-then h.made (λ g. with_events p count g) (leads-never s (start s) 0 (take count p.events) h.made h.leads)
    (λ g. events-never p count g) there

pub trials_no_memory : TrialsAreNoMemory
trials_no_memory = record {
  report = report-never;
  audit = audited-never;
  replay = λ s p count h. replays-never s p count (Err Memory) h (λ j. Err Memory);
}
