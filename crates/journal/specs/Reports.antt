-- The text of a report.
use Rattle.std.specs.Prelude.{ℕ, ◌==◌, if◌then◌else◌, codes, Bool, true, false, List, [], ◌∷◌, ◌++◌, Option, Some, None}
use Rattle.std.specs.List.{flat_map, enumerate_from}
use Rattle.std.specs.Fmt.{decimal}
use Rattle.tw_base.specs.declared.entry.Act.{Act}
use Rattle.tw_base.specs.declared.entry.Act.TheVariants as act
use Rattle.tw_base.specs.declared.entry.After.{After}
use Rattle.tw_base.specs.declared.entry.Entry.{Entry}
pub use Rattle.printed_text.specs.Lines.{line}
use Rattle.printed_text.specs.Names.{chan_text, failure_words, fault_text, kind_name, state_name, tag_text, trap_text}
use Rattle.teapot_tree.specs.declared.protocol.Protocol.{Protocol}
use Rattle.dsm_runs.specs.declared.outcome.Outcome.{Outcome}
use Rattle.dsm_runs.specs.declared.outcome.Outcome.TheVariants as outcome
use Rattle.dsm_runs.specs.Setups.{Setup}
use Rattle.journal.specs.declared.finals.Final.{Final}
use Rattle.journal.specs.declared.history.Break.{Break}
use Rattle.journal.specs.declared.reports.Options.{Options}

-- ---- the first line

abbrev pub head : Setup → List ℕ
head s =
    line (codes "tempest report" ∷ decimal s.version ∷ codes "nodes" ∷ decimal s.shape.nodes ∷ codes "words" ∷ decimal
    s.shape.words
    ∷ codes "blocks" ∷ decimal s.shape.blocks ∷ codes "budget" ∷ decimal s.shape.budget ∷ [])

-- ---- prints, words, registers

abbrev pub print_of : ℕ → Act → List ℕ
print_of node (act.Print value) = line (codes "print" ∷ decimal node ∷ decimal value ∷ [])
print_of node _ = []

-- each print of the journal, in its order
abbrev pub print_line : Entry → List ℕ
print_line e = print_of e.node e.act

-- a word of memory that is not 0, by its address
abbrev pub word_line : ℕ × ℕ → List ℕ
word_line word = if word.1 == 0 then [] else line (codes "word" ∷ decimal word.0 ∷ decimal word.1 ∷ [])

-- a register that is not 0
abbrev pub register_line : ℕ → ℕ × ℕ → List ℕ
register_line node register = if register.1 == 0 then [] else line
    (codes "register" ∷ decimal node ∷ decimal register.0 ∷ decimal register.1 ∷ [])

abbrev pub register_lines : ℕ × Final → List ℕ
register_lines ended = flat_map (register_line ended.0) (enumerate_from 0 ended.1.cpu.regs)

-- ---- nodes

abbrev pub outcome_words : Protocol → Outcome → List (List ℕ)
outcome_words p outcome.Halted = codes "halted" ∷ []
outcome_words p (outcome.Trapped why) = codes "trapped" ∷ trap_text why ∷ []
outcome_words p outcome.Spent = codes "spent" ∷ []
outcome_words p outcome.Stuck = codes "stuck" ∷ []
outcome_words p (outcome.Failed how) = failure_words p how

abbrev pub node_line : Protocol → ℕ × Final → List ℕ
node_line p ended =
    line (codes "node" ∷ decimal ended.0 ∷ outcome_words p ended.1.outcome ++ codes "place" ∷ decimal ended.1.cpu.place
    ∷ codes "instructions" ∷ decimal ended.1.instructions ∷ codes "handlers" ∷ decimal ended.1.handled ∷ [])

abbrev pub count_line : ℕ × Final → List ℕ
count_line ended =
    line (codes "counts" ∷ decimal ended.0 ∷ codes "ops" ∷ decimal ended.1.ops ∷ codes "records" ∷ decimal ended.1.records ∷ [])

-- ---- events

abbrev pub act_words : Protocol → Act → List (List ℕ)
act_words p (act.Load address value) = codes "ld" ∷ decimal address ∷ decimal value ∷ []
act_words p (act.Store address value) = codes "st" ∷ decimal address ∷ decimal value ∷ []
act_words p (act.Faa address value sum) = codes "faa" ∷ decimal address ∷ decimal value ∷ decimal sum ∷ []
act_words p (act.Print value) = codes "print" ∷ decimal value ∷ []
act_words p act.Halt = codes "halt" ∷ []
act_words p (act.Trapped why) = codes "trap" ∷ trap_text why ∷ []
act_words p act.Step = codes "step" ∷ []
act_words p (act.Fault store block) = codes "fault" ∷ fault_text store ∷ codes "block" ∷ decimal block ∷ []
act_words p (act.Redelivered kind block from) = codes "redeliver" ∷ kind_name p kind ∷ codes "block" ∷ decimal block ∷ codes
    "from" ∷ decimal from ∷ []
act_words p (act.Delivered kind block from chan number) =
    codes "deliver" ∷ kind_name p kind ∷ codes "block" ∷ decimal block ∷ codes "from" ∷ decimal from ∷ codes "channel" ∷
    chan_text chan
    ∷ codes "number" ∷ decimal number ∷ []

-- what a handler left; nothing where none ran
abbrev pub after_words : Protocol → ℕ → Option After → List (List ℕ)
after_words p sends None = []
after_words p sends (Some after) =
    codes "sends" ∷ decimal sends ∷ codes "state" ∷ state_name p after.state ∷ codes "tag" ∷ tag_text after.tag ∷ failure_words
    p after.end

-- entry k of a journal, by its place
abbrev pub event_line : Protocol → ℕ × Entry → List ℕ
event_line p event =
    line (codes "event" ∷ decimal event.0 ∷ codes "stamp" ∷ decimal event.1.stamp ∷ codes "node" ∷ decimal event.1.node
    ∷ act_words p event.1.act ++ after_words p event.1.sends event.1.after)

-- ---- the history

abbrev pub history_line : Option Break → List ℕ
history_line None = codes "history agrees\n"
history_line (Some b) =
    line (codes "history broken event" ∷ decimal b.event ∷ codes "node" ∷ decimal b.node ∷ codes "address" ∷ decimal
    b.address ∷ codes "read" ∷ decimal b.read
    ∷ codes "due" ∷ decimal b.due ∷ [])

-- ---- the whole

abbrev pub if_asked : Bool → List ℕ → List ℕ
if_asked true text = text
if_asked false text = []

-- The prints in the order of the journal; the words, the registers and the nodes at the end; the counts and the events where
-- they are asked for; and the history.
unfoldable pub report_of : Setup → List Entry → List Final → List ℕ → Option Break → Options → List ℕ
report_of s j finals words broken o =
    head s ++ flat_map print_line j ++ flat_map word_line (enumerate_from 0 words)
    ++ flat_map register_lines (enumerate_from 0 finals)
    ++ flat_map (node_line s.protocol) (enumerate_from 0 finals)
    ++ if_asked o.counts (flat_map count_line (enumerate_from 0 finals))
    ++ if_asked o.journal (flat_map (event_line s.protocol) (enumerate_from 0 j)) ++ history_line broken ++ codes "end\n"
