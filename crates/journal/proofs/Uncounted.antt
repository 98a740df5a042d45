-- A report without counts is the same, whatever was counted.
use Rattle.std.proofs.Common.{◌≡◌, ℕ, zero, suc, ◌+◌, Bool, true, false, List, ◌++◌, Option, map, codes, refl, ap, ◌∙◌}
use Rattle.std.specs.List.{flat_map, enumerate_from, range_with_len}
use Rattle.tw_base.specs.declared.entry.Entry.{Entry}
use Rattle.dsm_runs.specs.Setups.{Setup}
use Rattle.dsm_runs.specs.Worlds.{World}
use Rattle.journal.specs.Finals.{counted_final, counted_finals, final_of, finals_of}
use Rattle.journal.specs.Reports.{count_line, event_line, head, history_line, if_asked, node_line, print_line, register_lines}
use Rattle.journal.specs.Reports.{report_of, word_line}
use Rattle.journal.specs.declared.finals.Final.{Final}
use Rattle.journal.specs.declared.history.Break.{Break}
use Rattle.journal.specs.declared.reports.Options.{Options}

pub lines_alike : (line : ℕ × Final → List ℕ) (f h : ℕ → Final) → ((k i : ℕ) → line (k, f i) ≡ line (k, h i)) → (k a n : ℕ) →
    flat_map line (enumerate_from k (map f (range_with_len a n))) ≡ flat_map line
    (enumerate_from k (map h (range_with_len a n)))
lines_alike line f h e k a zero = refl
lines_alike line f h e k a (suc n) =
    ap (λ (l : List ℕ). l ++ flat_map line (enumerate_from (k + 1) (map f (range_with_len (a + 1) n)))) (e k a)
    ∙ ap (λ (l : List ℕ). line (k, h a) ++ l) (lines_alike line f h e (k + 1) (a + 1) n)

not_asked : (asked : Bool) (x y : List ℕ) → asked ≡ false → if_asked asked x ≡ if_asked asked y
not_asked true x y h = absurd cc
not_asked false x y h = refl

parts_alike : (x registers registers2 nodes nodes2 counts counts2 events history end : List ℕ) → registers ≡ registers2 →
    nodes ≡ nodes2 → counts ≡ counts2 →
    x ++ registers ++ nodes ++ counts ++ events ++ history ++ end ≡ x ++ registers2 ++ nodes2 ++ counts2 ++ events ++ history
    ++ end
parts_alike x registers registers2 nodes nodes2 counts counts2 events history end p q r =
    ap (λ (l : List ℕ). x ++ l ++ nodes ++ counts ++ events ++ history ++ end) p
    ∙ ap (λ (l : List ℕ). x ++ registers2 ++ l ++ counts ++ events ++ history ++ end) q
    ∙ ap (λ (l : List ℕ). x ++ registers2 ++ nodes2 ++ l ++ events ++ history ++ end) r

pub counts_untold : (s : Setup) (j : List Entry) (g : World) (ops records : ℕ → ℕ) (words : List ℕ) (broken : Option Break)
    (o : Options) → o.counts ≡ false →
    report_of s j (counted_finals s g ops records) words broken o ≡ report_of s j (finals_of s g) words broken o
unfolding report_of
counts_untold s j g ops records words broken o h =
    let counted : ℕ → Final = λ i. counted_final s (g.locals i) (ops i) (records i) in
    let uncounted : ℕ → Final = λ i. final_of s (g.locals i) in
    parts_alike (head s ++ flat_map print_line j ++ flat_map word_line (enumerate_from 0 words)) _ _ _ _ _ _
    (if_asked o.journal (flat_map (event_line s.protocol) (enumerate_from 0 j))) (history_line broken) (codes "end\n")
    (lines_alike register_lines counted uncounted (λ k i. refl) 0 0 s.shape.nodes)
    (lines_alike (node_line s.protocol) counted uncounted (λ k i. refl) 0 0 s.shape.nodes)
    (not_asked o.counts (flat_map count_line (enumerate_from 0 (counted_finals s g ops records)))
    (flat_map count_line (enumerate_from 0 (finals_of s g))) h)
