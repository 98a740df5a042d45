-- A report that is asked for no counts is the same, whatever was counted, and so is a summary.
use Rattle.std.proofs.Common.{◌≡◌, ℕ, zero, suc, ◌+◌, ◌&&◌, Bool, false, List, ◌++◌, Option, if◌then◌else◌, codes, map, refl}
use Rattle.std.proofs.Common.{ap, ◌∙◌}
use Rattle.std.specs.List.{list_all, range_with_len}
use Rattle.tw_base.specs.declared.entry.Entry.{Entry}
use Rattle.dsm_runs.specs.Setups.{Setup}
use Rattle.dsm_runs.specs.Worlds.{World}
use Rattle.teapot_tree.specs.declared.protocol.Protocol.{Protocol}
use Rattle.journal.specs.declared.finals.Final.{Final}
use Rattle.journal.specs.declared.history.Break.{Break}
use Rattle.journal.specs.declared.reports.Options.{Options}
use Rattle.journal.specs.Finals.{counted_final, counted_finals, final_of, finals_of}
use Rattle.journal.specs.Gathered.{words_of}
use Rattle.journal.specs.History.{first_break}
use Rattle.journal.specs.Reports.{history_line, report_of}
use Rattle.journal.proofs.Uncounted.{counts_untold, lines_alike}
use Rattle.sample_runs.specs.Summaries.{sum_line, summary_head, summary_node, summary_under}
use Rattle.tempest_run.specs.declared.answer.Answer.{Answer}
use Rattle.tempest_run.specs.declared.status.Status.{Status}
use Rattle.tempest_run.specs.declared.status.Status.TheVariants.{Done, Unfinished}
use Rattle.tempest_run.specs.Answering.{has_halted, report_answer, status_of, told_answer}

halted_alike :
    (f h : ℕ → Final) → ((i : ℕ) → has_halted (f i).outcome ≡ has_halted (h i).outcome) → (k n : ℕ) →
    list_all (λ e. has_halted e.outcome) (map f (range_with_len k n)) ≡
    list_all (λ e. has_halted e.outcome) (map h (range_with_len k n))
halted_alike f h e k zero = refl
halted_alike f h e k (suc n) =
    ap (λ (b : Bool). b && list_all (λ x. has_halted x.outcome) (map f (range_with_len (k + 1) n))) (e k)
    ∙ ap (λ (b : Bool). has_halted (h k).outcome && b) (halted_alike f h e (k + 1) n)

status_alike :
    (s : Setup) (g : World) (ops records : ℕ → ℕ) → status_of (counted_finals s g ops records) ≡ status_of (finals_of s g)
status_alike s g ops records =
    ap (λ (b : Bool). if b then Done else Unfinished)
    (halted_alike (λ i. counted_final s (g.locals i) (ops i) (records i)) (λ i. final_of s (g.locals i)) (λ i. refl) 0
    s.shape.nodes)

abbrev answer : Status → List ℕ → Answer
answer status text = record { status = status; text = text }

pub counts_unseen :
    (s : Setup) (j : List Entry) (g : World) (ops records : ℕ → ℕ) (o : Options) → o.counts ≡ false →
    report_answer s j g ops records o ≡ told_answer s j (finals_of s g) (words_of s g) o
counts_unseen s j g ops records o none =
    ap (λ (x : Status). answer x (report_of s j (counted_finals s g ops records) (words_of s g) (first_break s j) o))
    (status_alike s g ops records)
    ∙ ap (λ (x : List ℕ). answer (status_of (finals_of s g)) x)
    (counts_untold s j g ops records (words_of s g) (first_break s j) o none)

-- a summary tells no counts
pub summary_unseen :
    (p : Protocol) (k : ℕ) (j : List Entry) (s : Setup) (g : World) (ops records : ℕ → ℕ) (words : List ℕ)
    (broken : Option Break) →
    summary_under p k j (counted_finals s g ops records) words broken ≡ summary_under p k j (finals_of s g) words broken
unfolding summary_under
summary_unseen p k j s g ops records words broken =
    ap (λ (x : List ℕ). summary_head k ++ x ++ sum_line words ++ history_line broken ++ codes "end\n")
    (lines_alike (summary_node p j) (λ i. counted_final s (g.locals i) (ops i) (records i)) (λ i. final_of s (g.locals i))
    (λ m i. refl)
    0 0 s.shape.nodes)
