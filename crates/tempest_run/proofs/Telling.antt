-- A run and the report that tells of it.
use Rattle.std.proofs.Common.{◌≡◌, ℕ, zero, suc, ◌+◌, ◌*◌, ◌^◌, ◌<◌, ◌≤◌, List, Option, length, ap, subst, ◌∙◌, arith}
use Rattle.tw_base.specs.Shape.{Sizes, IsWithinLimits, handler_budget_of}
use Rattle.tw_base.specs.declared.entry.Entry.{Entry}
use Rattle.mini_asm.specs.Run.{Machine, start_of}
use Rattle.mini_asm.specs.declared.instr.Instr.{Instr}
use Rattle.dsm_runs.specs.Schedules.{Settles}
use Rattle.dsm_runs.specs.Setups.{Setup}
use Rattle.dsm_runs.specs.Worlds.{World, start}
use Rattle.journal.specs.declared.finals.Final.{Final}
use Rattle.journal.specs.declared.history.Break.{Break}
use Rattle.journal.specs.declared.reports.Options.{Options}
use Rattle.journal.specs.Finals.{counted_finals}
use Rattle.journal.specs.Gathered.{words_of}
use Rattle.journal.specs.History.{break_from, first_break}
use Rattle.journal.specs.Reports.{report_of}
use Rattle.teapot_tree.specs.declared.protocol.Protocol.{Protocol}
use Rattle.handler_code.specs.declared.code.Code.{Code}
use Rattle.compiled_meaning.specs.Whole.{IsCode}
use Rattle.code_text.specs.Texts.{text_of}
use Rattle.tempest_run.specs.declared.answer.Answer.{Answer}
use Rattle.tempest_run.specs.Answering.{TellsOfCode, report_answer, status_of, told_answer}
use Rattle.tempest_run.specs.declared.status.Status.{Status}
use Rattle.tempest_run.specs.declared.status.Status.TheVariants.{Done}

-- a run of at most eight nodes within the limits has few events
few : (n budget count : ℕ) → n ≤ 8 → (4 * n + 4) * n * budget ≤ 1250000 → count ≤ n * (budget + (4 * n + 4) * n * budget) →
    count < 2 ^ 32
few zero budget count eight limit at_most = omega (arith, at_most)
few (suc zero) budget count eight limit at_most = omega (arith, limit, at_most)
few (suc (suc zero)) budget count eight limit at_most = omega (arith, limit, at_most)
few (suc (suc (suc zero))) budget count eight limit at_most = omega (arith, limit, at_most)
few (suc (suc (suc (suc zero)))) budget count eight limit at_most = omega (arith, limit, at_most)
few (suc (suc (suc (suc (suc zero))))) budget count eight limit at_most = omega (arith, limit, at_most)
few (suc (suc (suc (suc (suc (suc zero)))))) budget count eight limit at_most = omega (arith, limit, at_most)
few (suc (suc (suc (suc (suc (suc (suc zero))))))) budget count eight limit at_most = omega (arith, limit, at_most)
few (suc (suc (suc (suc (suc (suc (suc (suc zero)))))))) budget count eight limit at_most = omega (arith, limit, at_most)
few (suc (suc (suc (suc (suc (suc (suc (suc (suc n))))))))) budget count eight limit at_most = absurd (omega (arith, eight))

pub short : (s : Sizes) (j : List Entry) → IsWithinLimits s → length j ≤ s.nodes * (s.budget + handler_budget_of s) →
    length j < 2 ^ 32
short s j limits at_most = few s.nodes s.budget (length j) limits.nodes limits.budget at_most

-- a schedule from a state that is the start
pub from_start : (s t : Setup) (stride : ℕ) (g : World) (j : List Entry) (h : World) → t ≡ s → g ≡ start s →
    Settles t stride 0 g j h → Settles s stride 0 (start s) j h
from_start s t stride g j h e f settles = subst (λ u. Settles u stride 0 (start s) j h) e
    (subst (λ w. Settles t stride 0 w j h) f settles)

abbrev answer : Status → List ℕ → Answer
answer status text = record { status = status; text = text }

-- what is made of a journal, of ends and of words is their report
pub told :
    (s : Setup) (o : Options) (j : List Entry) (finals : List Final) (words : List ℕ) (b : Option Break) (status : Status)
    (text : List ℕ) → b ≡ first_break s j → status ≡ status_of finals → text ≡ report_of s j finals words b o →
    record { status = status; text = text } ≡ told_answer s j finals words o
told s o j finals words b status text hb hs ht =
    ap (λ x. answer x text) hs ∙ ap (λ x. answer (status_of finals) x) (ht ∙ ap (λ x. report_of s j finals words x o) hb)

-- a report of a run's journal, ends and words is the run's
pub tale :
    (s : Setup) (o : Options) (j j1 : List Entry) (g : World) (ops records : ℕ → ℕ) (f : List Final) (w : List ℕ) (a : Answer) →
    j1 ≡ j → f ≡ counted_finals s g ops records → w ≡ words_of s g → a ≡ told_answer s j1 f w o →
    a ≡ report_answer s j g ops records o
tale s o j j1 g ops records f w a hj hf hw ha =
    ha ∙ ap (λ x. told_answer s x f w o) hj ∙ ap (λ x. told_answer s j x w o) hf
    ∙ ap (λ x. told_answer s j (counted_finals s g ops records) x o) hw

-- the first break, on a flat machine at its start
pub broken_is :
    (s : Setup) (j j1 : List Entry) (m : Machine) (sizes : Sizes) (init : List (ℕ × ℕ)) (programs : List (List Instr))
    (b : Option Break) →
    b ≡ break_from m 0 j1 → m ≡ start_of sizes init programs → sizes ≡ s.shape → init ≡ s.init → programs ≡ s.programs →
    j1 ≡ j → b ≡ first_break s j
broken_is s j j1 m sizes init programs b hb hm hs hi hp hj =
    hb ∙ ap (λ x. break_from x 0 j1) (hm ∙ ap (λ x. start_of x init programs) hs ∙ ap (λ x. start_of s.shape x programs) hi
    ∙ ap (λ x. start_of s.shape s.init x) hp)
    ∙ ap (λ x. break_from (start_of s.shape s.init s.programs) 0 x) hj

-- what is made of the code of a protocol is its text
pub coded : (p : Protocol) (code : Code) (text : List ℕ) → IsCode p code → text ≡ text_of p code →
    TellsOfCode p (record { status = Done; text = text })
coded p code text is e = record { code = code; is_code = is; tells = ap (λ x. answer Done x) e }
