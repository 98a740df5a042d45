-- The text of the summary of a sample's run.
use Rattle.std.specs.Prelude.{ℕ, ◌^◌, ◌%◌, ◌==◌, if◌then◌else◌, codes, sum, unwrap_or, List, [], ◌∷◌, ◌++◌, Option, Some, None}
use Rattle.std.specs.List.{flat_map, enumerate_from}
use Rattle.std.specs.Fmt.{decimal}
use Rattle.tw_base.specs.declared.entry.Act.{Act}
use Rattle.tw_base.specs.declared.entry.Act.TheVariants as act
use Rattle.tw_base.specs.declared.entry.Entry.{Entry}
use Rattle.printed_text.specs.Lines.{line}
use Rattle.teapot_tree.specs.declared.protocol.Protocol.{Protocol}
use Rattle.journal.specs.declared.finals.Final.{Final}
use Rattle.journal.specs.declared.history.Break.{Break}
use Rattle.journal.specs.Reports.{history_line, outcome_words}
use Rattle.sample_runs.specs.Samples.{rounds_of, shipped_protocol}

-- ---- what a node printed

abbrev pub printed : Act → Option ℕ
printed (act.Print value) = Some value
printed _ = None

-- what an entry printed, where it is of node i
abbrev pub printed_by : ℕ → Entry → Option ℕ
printed_by i e = if e.node == i then printed e.act else None

-- the first value that node i printed, 0 where it printed none
abbrev pub first_print : ℕ → List Entry → ℕ
first_print i [] = 0
first_print i (e ∷ es) = unwrap_or (printed_by i e) (first_print i es)

-- ---- the lines

abbrev pub summary_head : ℕ → List ℕ
summary_head k = line (codes "tempest sample" ∷ decimal k ∷ codes "rounds" ∷ decimal (rounds_of k) ∷ [])

-- how a node ended, and what it printed first
abbrev pub summary_node : Protocol → List Entry → ℕ × Final → List ℕ
summary_node p j ended =
    line (codes "node" ∷ decimal ended.0 ∷ outcome_words p ended.1.outcome
    ++ codes "print" ∷ decimal (first_print ended.0 j) ∷ [])

-- the sum of all words, as numbers of 64 bits
abbrev pub sum_of : List ℕ → ℕ
sum_of words = sum words % 2 ^ 64

abbrev pub sum_line : List ℕ → List ℕ
sum_line words = line (codes "sum" ∷ decimal (sum_of words) ∷ [])

-- The summary of a run of sample k under a protocol: how each node ended, what it printed first, the sum of the words at the
-- end, and the history.
unfoldable pub summary_under : Protocol → ℕ → List Entry → List Final → List ℕ → Option Break → List ℕ
summary_under p k j finals words broken =
    summary_head k ++ flat_map (summary_node p j) (enumerate_from 0 finals) ++ sum_line words ++ history_line broken
    ++ codes "end\n"

-- the summary of a run of sample k
abbrev pub summary_text : ℕ → List Entry → List Final → List ℕ → Option Break → List ℕ
summary_text k j finals words broken = summary_under shipped_protocol k j finals words broken
