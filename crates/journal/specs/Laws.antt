-- What a journal says of one flat memory, and what a report says of a journal.
use Rattle.std.specs.Prelude.{◌≡◌, ◌≢◌, ℕ, ◌<◌, codes, length, slice_get, List, [], ◌∷◌, ◌++◌, Option, Some, None}
use Rattle.std.specs.Fmt.{decimal}
use Rattle.std.specs.List.{flat_map, enumerate_from}
use Rattle.std.specs.Option.{option_map}
use Rattle.tw_base.specs.declared.entry.Act.{Act}
use Rattle.tw_base.specs.declared.entry.Act.TheVariants as act
use Rattle.tw_base.specs.declared.entry.Entry.{Entry}
use Rattle.mini_asm.specs.Run.{Machine}
use Rattle.dsm_runs.specs.Flat.{Follows, flat_start, flat_step, reading}
use Rattle.dsm_runs.specs.Setups.{IsSetup, Setup}
use Rattle.dsm_runs.specs.Worlds.{Runs, World, start}
use Rattle.journal.specs.declared.history.Break.{Break}
use Rattle.journal.specs.declared.finals.Final.{Final}
use Rattle.journal.specs.declared.reports.Options.{Options}
use Rattle.journal.specs.History.{first_break}
use Rattle.printed_text.specs.Lines.{line}
use Rattle.journal.specs.Reports.{count_line, event_line, head, history_line, if_asked, node_line, register_lines, report_of}
use Rattle.journal.specs.Reports.{word_line}

-- One flat memory explains the journal of a run to g (after Lamport's sequential consistency): its instructions are the flat
-- machine's, and leave the processors of g's nodes.
pub record Agrees (s : Setup) (j : List Entry) (g : World) : Type 0 where
  pub flat : Machine
  pub follows : Follows (flat_start s) j flat
  pub processors : (i : ℕ) → i < s.shape.nodes → option_map (λ core. core.cpu) (slice_get flat.cores i) ≡ Some (g.locals i).cpu

-- The break is the first of the journal: up to it the flat machine does what the entries say, and there it reads another value.
pub record IsBroken (s : Setup) (j : List Entry) (b : Break) : Type 0 where
  pub before : List Entry
  pub entry : Entry
  pub later : List Entry
  pub splits : j ≡ before ++ entry ∷ later
  pub event : b.event ≡ length before
  pub node : b.node ≡ entry.node
  pub read : reading entry.act ≡ Some (b.address, b.read)
  pub flat : Machine
  pub follows : Follows (flat_start s) before flat
  pub act : Act
  pub after : Machine
  pub steps : flat_step flat entry.node ≡ Some (act, after)
  pub due : reading act ≡ Some (b.address, b.due)
  pub differs : b.read ≢ b.due

-- what is told of the history of a run
abbrev pub History : Setup → List Entry → World → Option Break → Type 0
History s j g None = Agrees s j g
History s j g (Some b) = IsBroken s j b

abbrev pub HistoryIsTold : Type 0
HistoryIsTold = (s : Setup) (j : List Entry) (g : World) → IsSetup s → Runs s (start s) j g → History s j g (first_break s j)

-- ---- the report

abbrev pub with_print : ℕ → Act → List (ℕ × ℕ) → List (ℕ × ℕ)
with_print node (act.Print value) rest = (node, value) ∷ rest
with_print node _ rest = rest

-- what a journal printed: the nodes and the values, in order
abbrev pub prints_of : List Entry → List (ℕ × ℕ)
prints_of [] = []
prints_of (e ∷ es) = with_print e.node e.act (prints_of es)

abbrev pub print_text : ℕ × ℕ → List ℕ
print_text print = line (codes "print" ∷ decimal print.0 ∷ decimal print.1 ∷ [])

-- the prints of a report are those of the journal, each once and in its order, right behind the first line
abbrev pub ReportPrints : Type 0
ReportPrints =
    (s : Setup) (j : List Entry) (finals : List Final) (words : List ℕ) (broken : Option Break) (o : Options) →
    report_of s j finals words broken o ≡
    head s ++ flat_map print_text (prints_of j) ++ flat_map word_line (enumerate_from 0 words)
    ++ flat_map register_lines (enumerate_from 0 finals)
    ++ flat_map (node_line s.protocol) (enumerate_from 0 finals)
    ++ if_asked o.counts (flat_map count_line (enumerate_from 0 finals))
    ++ if_asked o.journal (flat_map (event_line s.protocol) (enumerate_from 0 j)) ++ history_line broken ++ codes "end\n"
