-- The instructions that a report tells of, executed on the flat machine.
use Rattle.std.specs.Prelude.{ℕ, if◌then◌else◌, Bool, true, false, List, [], ◌∷◌, ◌++◌, drop, count_by, Option, Some, None}
use Rattle.std.specs.Prelude.{Result, Ok, Err}
use Rattle.tw_base.specs.Answers.{◌>>=◌}
use Rattle.tw_base.specs.declared.entry.Act.{Act}
use Rattle.tw_base.specs.declared.entry.Act.TheVariants as act
use Rattle.tw_lex.specs.declared.token.Token.{Token}
use Rattle.mini_asm.specs.Run.{Machine}
use Rattle.teapot_tree.specs.declared.protocol.Protocol.{Protocol}
use Rattle.dsm_runs.specs.Flat.{flat_start, flat_step}
use Rattle.dsm_runs.specs.Setups.{Setup}
use Rattle.report_reader.specs.declared.error.AuditError.{AuditError}
use Rattle.report_reader.specs.declared.error.AuditError.TheVariants.{Denied}
use Rattle.report_reader.specs.declared.error.AuditRule.TheVariants.{WrongAct}
use Rattle.report_reader.specs.declared.kind.LineKind.{LineKind}
use Rattle.report_reader.specs.declared.kind.LineKind.TheVariants as kinds
use Rattle.report_reader.specs.declared.lines.PrintedLine.{PrintedLine}
use Rattle.printed_lines.specs.Reading.{kind_of, node_of}
use Rattle.printed_lines.specs.Saying.{says}
use Rattle.printed_lines.specs.Tokens.{act_tokens, whats}
use Rattle.report_audit.specs.declared.due.Due.{Due}
use Rattle.report_audit.specs.declared.due.Due.TheVariants as due
use Rattle.report_audit.specs.declared.execute.Executed.{Executed}

-- ---- the lines of instructions that completed

abbrev pub is_completion : LineKind → Bool
is_completion kinds.Completed = true
is_completion _ = false

abbrev pub is_completed : List Token → Bool
is_completed ts = is_completion (kind_of ts)

abbrev pub completed : List PrintedLine → ℕ
completed events = count_by (λ l. is_completed l.tokens) events

-- ---- what the flat machine does

-- before the first instruction
abbrev pub begun : Setup → Executed
begun s = record { flat = flat_start s; prints = [] }

-- what a node prints
abbrev pub print_due : ℕ → Act → List Due
print_due node (act.Print value) = due.Print node value ∷ []
print_due node _ = []

-- node's next instruction, where the line says what it does
abbrev pub executed_as : Protocol → Executed → PrintedLine → ℕ → Option (Act × Machine) → Result Executed AuditError
executed_as p x l node None = Err (Denied l.line WrongAct)
executed_as p x l node (Some did) =
    if says (act_tokens p did.0) (whats (drop 6 l.tokens)) then Ok
    (record { flat = did.1; prints = x.prints ++ print_due node did.0 })
    else Err (Denied l.line WrongAct)

abbrev pub executed_at : Protocol → Executed → PrintedLine → Option ℕ → Result Executed AuditError
executed_at p x l None = Err (Denied l.line WrongAct)
executed_at p x l (Some node) = executed_as p x l node (flat_step x.flat node)

abbrev pub executed_if : Bool → Protocol → Executed → PrintedLine → Result Executed AuditError
executed_if true p x l = executed_at p x l (node_of l.tokens)
executed_if false p x l = Ok x

-- the line of an instruction that completed: the machine executes the next one of its node; other lines leave it
unfoldable pub line_executed : Protocol → Executed → PrintedLine → Result Executed AuditError
line_executed p x l = executed_if (is_completed l.tokens) p x l

-- The lines of events, in their order. Denied at the first whose node has ended, or does something else.
unfoldable pub executed : Protocol → Executed → List PrintedLine → Result Executed AuditError
executed p x [] = Ok x
executed p x (l ∷ ls) = line_executed p x l >>= λ next. executed p next ls
