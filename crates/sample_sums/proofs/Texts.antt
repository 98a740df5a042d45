-- The text of a summary, from what it is made of.
use Rattle.std.proofs.Common.{◌≡◌, ℕ, List, [], ◌∷◌, ◌++◌, None, codes, ap, ◌∙◌}
use Rattle.std.specs.Fmt.{decimal}
use Rattle.std.proofs.lemmas.List.{append_assoc, append-nil}
use Rattle.tw_base.specs.declared.entry.Entry.{Entry}
use Rattle.teapot_tree.specs.declared.protocol.Protocol.{Protocol}
use Rattle.dsm_runs.specs.declared.outcome.Outcome.{Outcome}
use Rattle.dsm_runs.specs.declared.outcome.Outcome.TheVariants.{Halted}
use Rattle.printed_text.specs.Lines.{line}
use Rattle.journal.specs.Reports.{history_line, outcome_words}
use Rattle.journal.specs.declared.finals.Final.{Final}
use Rattle.sample_runs.specs.Summaries.{first_print, sum_line, sum_of, summary_head, summary_node, summary_under}
use Rattle.sample_sums.specs.OneSummary.{halted_line, one_summary, result_of, total_of}

-- the line of a node that has halted and printed its result
pub node_line_is : (p : Protocol) (j : List Entry) (k i : ℕ) (f : Final) → f.outcome ≡ Halted → first_print i j ≡ result_of k i
    → summary_node p j (i, f) ≡ halted_line k i
node_line_is p j k i f halted printed =
    ap (λ (o : Outcome). line (codes "node" ∷ decimal i ∷ outcome_words p o ++ codes "print" ∷ decimal (first_print i j) ∷ []))
    halted
    ∙ ap (λ (v : ℕ). line (codes "node" ∷ decimal i ∷ codes "halted" ∷ codes "print" ∷ decimal v ∷ [])) printed

-- four lines, as one list behind another or as they are joined by lists of them
four_joined : (head a b c d rest more last : List ℕ)
    → head ++ (a ++ (b ++ (c ++ (d ++ [])))) ++ rest ++ more ++ last ≡ head ++ a ++ b ++ c ++ d ++ rest ++ more ++ last
four_joined head a b c d rest more last = ap (λ x. x ++ rest ++ more ++ last) (simp (append_assoc, append-nil))

lines_alike : (head a b c d a2 b2 c2 d2 rest rest2 more last : List ℕ) → a ≡ a2 → b ≡ b2 → c ≡ c2 → d ≡ d2 → rest ≡ rest2
    → head ++ (a ++ (b ++ (c ++ (d ++ [])))) ++ rest ++ more ++ last ≡ head ++ a2 ++ b2 ++ c2 ++ d2 ++ rest2 ++ more ++ last
lines_alike head a b c d a2 b2 c2 d2 rest rest2 more last e0 e1 e2 e3 e4 =
    rw (e0, e1, e2, e3, e4) (four_joined head a2 b2 c2 d2 rest2 more last)

pub summary_is : (p : Protocol) (k : ℕ) (j : List Entry) (f0 f1 f2 f3 : Final) (words : List ℕ) → f0.outcome ≡ Halted
    → f1.outcome ≡ Halted → f2.outcome ≡ Halted → f3.outcome ≡ Halted
    → first_print 0 j ≡ result_of k 0 → first_print 1 j ≡ result_of k 1 → first_print 2 j ≡ result_of k 2
    → first_print 3 j ≡ result_of k 3 → sum_of words ≡ total_of k
    → summary_under p k j (f0 ∷ f1 ∷ f2 ∷ f3 ∷ []) words None ≡ one_summary k
unfolding summary_under one_summary
summary_is p k j f0 f1 f2 f3 words h0 h1 h2 h3 p0 p1 p2 p3 total =
    lines_alike (summary_head k) (summary_node p j (0, f0)) (summary_node p j (1, f1)) (summary_node p j (2, f2))
    (summary_node p j (3, f3))
    (halted_line k 0) (halted_line k 1) (halted_line k 2) (halted_line k 3) (sum_line words)
    (line (codes "sum" ∷ decimal (total_of k) ∷ [])) (history_line None) (codes "end\n")
    (node_line_is p j k 0 f0 h0 p0) (node_line_is p j k 1 f1 h1 p1) (node_line_is p j k 2 f2 h2 p2)
    (node_line_is p j k 3 f3 h3 p3)
    (ap (λ (t : ℕ). line (codes "sum" ∷ decimal t ∷ [])) total)
