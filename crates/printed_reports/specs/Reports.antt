-- The lines of a report, token by token.
use Rattle.std.specs.Prelude.{ℕ, ◌==◌, if◌then◌else◌, codes, map, Bool, true, false, List, [], ◌∷◌, ◌++◌, Option, Some, None}
use Rattle.std.specs.List.{enumerate_from, flat_map}
use Rattle.tw_base.specs.declared.entry.Entry.{Entry}
use Rattle.tw_lex.specs.declared.token.Line.{Line}
use Rattle.tw_lex.specs.declared.token.What.{What}
use Rattle.tw_lex.specs.declared.token.What.TheVariants.{Word, Number}
use Rattle.teapot_tree.specs.declared.protocol.Protocol.{Protocol}
use Rattle.printed_text.specs.Names.{trap_text}
use Rattle.dsm_runs.specs.declared.outcome.Outcome.{Outcome}
use Rattle.dsm_runs.specs.declared.outcome.Outcome.TheVariants as outcome
use Rattle.dsm_runs.specs.Setups.{Setup}
use Rattle.report_reader.specs.declared.lines.PrintedLine.{PrintedLine}
use Rattle.journal.specs.declared.finals.Final.{Final}
use Rattle.journal.specs.declared.history.Break.{Break}
use Rattle.journal.specs.declared.reports.Options.{Options}
use Rattle.journal.specs.Laws.{prints_of}
use Rattle.printed_lines.specs.Tokens.{entry_tokens, failure_tokens, whats}

-- what a line says
abbrev pub said : Line → List What
said l = whats l.tokens

-- what a line that was read says
abbrev pub told : PrintedLine → List What
told l = whats l.tokens

abbrev pub head_tokens : Setup → List What
head_tokens s =
    Word (codes "tempest") ∷ Word (codes "report") ∷ Number s.version ∷ Word (codes "nodes") ∷ Number s.shape.nodes ∷ Word
    (codes "words")
    ∷ Number s.shape.words ∷ Word (codes "blocks") ∷ Number s.shape.blocks ∷ Word (codes "budget") ∷ Number s.shape.budget ∷ []

-- ---- prints, words, registers

-- a node and what it printed
abbrev pub print_tokens : ℕ × ℕ → List What
print_tokens print = Word (codes "print") ∷ Number print.0 ∷ Number print.1 ∷ []

abbrev pub prints_said : List Entry → List (List What)
prints_said j = map print_tokens (prints_of j)

-- the line of a value that is not 0
abbrev pub unless_zero : ℕ → List What → List (List What)
unless_zero value says = if value == 0 then [] else says ∷ []

abbrev pub word_tokens : ℕ × ℕ → List What
word_tokens word = Word (codes "word") ∷ Number word.0 ∷ Number word.1 ∷ []

abbrev pub word_said : ℕ × ℕ → List (List What)
word_said word = unless_zero word.1 (word_tokens word)

abbrev pub words_said : List ℕ → List (List What)
words_said words = flat_map word_said (enumerate_from 0 words)

abbrev pub register_tokens : ℕ → ℕ × ℕ → List What
register_tokens node register = Word (codes "register") ∷ Number node ∷ Number register.0 ∷ Number register.1 ∷ []

abbrev pub register_said : ℕ → ℕ × ℕ → List (List What)
register_said node register = unless_zero register.1 (register_tokens node register)

-- the registers of a node
abbrev pub node_registers_said : ℕ × Final → List (List What)
node_registers_said ended = flat_map (register_said ended.0) (enumerate_from 0 ended.1.cpu.regs)

abbrev pub registers_said : List Final → List (List What)
registers_said finals = flat_map node_registers_said (enumerate_from 0 finals)

-- ---- nodes

abbrev pub outcome_tokens : Protocol → Outcome → List What
outcome_tokens p outcome.Halted = Word (codes "halted") ∷ []
outcome_tokens p (outcome.Trapped why) = Word (codes "trapped") ∷ Word (trap_text why) ∷ []
outcome_tokens p outcome.Spent = Word (codes "spent") ∷ []
outcome_tokens p outcome.Stuck = Word (codes "stuck") ∷ []
outcome_tokens p (outcome.Failed how) = failure_tokens p how

abbrev pub node_tokens : Protocol → ℕ × Final → List What
node_tokens p ended =
    Word (codes "node") ∷ Number ended.0 ∷ outcome_tokens p ended.1.outcome ++ Word (codes "place") ∷ Number ended.1.cpu.place
    ∷ Word (codes "instructions") ∷ Number ended.1.instructions ∷ Word (codes "handlers") ∷ Number ended.1.handled ∷ []

abbrev pub nodes_said : Protocol → List Final → List (List What)
nodes_said p finals = map (node_tokens p) (enumerate_from 0 finals)

abbrev pub count_tokens : ℕ × Final → List What
count_tokens ended =
    Word (codes "counts") ∷ Number ended.0 ∷ Word (codes "ops") ∷ Number ended.1.ops ∷ Word
    (codes "records") ∷ Number ended.1.records ∷ []

-- these lines where they are asked for
abbrev pub lines_if : Bool → List (List What) → List (List What)
lines_if true lines = lines
lines_if false lines = []

abbrev pub counts_said : Bool → List Final → List (List What)
counts_said asked finals = lines_if asked (map count_tokens (enumerate_from 0 finals))

-- ---- events, the history, and the end

abbrev pub events_said : Bool → Protocol → List Entry → List (List What)
events_said asked p j = lines_if asked (map (entry_tokens p) (enumerate_from 0 j))

abbrev pub history_tokens : Option Break → List What
history_tokens None = Word (codes "history") ∷ Word (codes "agrees") ∷ []
history_tokens (Some b) =
    Word (codes "history") ∷ Word (codes "broken") ∷ Word (codes "event") ∷ Number b.event ∷ Word
    (codes "node") ∷ Number b.node ∷ Word (codes "address")
    ∷ Number b.address ∷ Word (codes "read") ∷ Number b.read ∷ Word (codes "due") ∷ Number b.due ∷ []

abbrev pub end_tokens : List What
end_tokens = Word (codes "end") ∷ []

-- ---- the whole

abbrev pub report_said : Setup → List Entry → List Final → List ℕ → Option Break → Options → List (List What)
report_said s j finals words broken o =
    head_tokens s ∷
    (prints_said j ++
    (words_said words ++ (registers_said finals ++ (nodes_said s.protocol finals ++ (counts_said o.counts finals
    ++ (events_said o.journal s.protocol j ++ (history_tokens broken ∷ end_tokens ∷ [])))))))
