-- A report beside the flat machine: it is explained, or denied at a line.
use Rattle.std.specs.Prelude.{ℕ, if◌then◌else◌, codes, length, List, [], ◌∷◌, Option, Some, None, Result, Ok, Err}
use Rattle.tw_base.specs.Answers.{◌>>=◌}
use Rattle.tw_lex.specs.declared.token.What.{What}
use Rattle.tw_lex.specs.declared.token.What.TheVariants.{Word}
use Rattle.dsm_runs.specs.Setups.{Setup}
use Rattle.report_reader.specs.declared.error.AuditError.{AuditError}
use Rattle.report_reader.specs.declared.error.AuditError.TheVariants.{Denied}
use Rattle.report_reader.specs.declared.error.AuditRule.{AuditRule}
use Rattle.report_reader.specs.declared.error.AuditRule.TheVariants.{WrongPrint, WrongWord, WrongRegister, WrongNode}
use Rattle.report_reader.specs.declared.error.AuditRule.TheVariants.{WrongHistory}
use Rattle.report_reader.specs.declared.lines.Printed.{Printed}
use Rattle.report_reader.specs.declared.lines.PrintedLine.{PrintedLine}
use Rattle.printed_lines.specs.Saying.{says}
use Rattle.printed_lines.specs.Tokens.{whats}
use Rattle.report_audit.specs.declared.auditing.Audited.{Audited}
use Rattle.report_audit.specs.declared.execute.Executed.{Executed}
use Rattle.report_audit.specs.Executing.{begun, completed, executed}
use Rattle.report_audit.specs.Lines.{all_registers_due, first_other, words_due}
use Rattle.report_audit.specs.Nodes.{wrong_node}

-- a line at fault denies the report by this rule
abbrev pub pass : AuditRule → Option ℕ → Result (Unit {0}) AuditError
pass rule None = Ok tt
pass rule (Some line) = Err (Denied line rule)

-- ---- the first line of a later kind

abbrev pub line_or : List PrintedLine → ℕ → ℕ
line_or [] other = other
line_or (l ∷ ls) other = l.line

abbrev pub from_nodes : Printed → ℕ
from_nodes p = line_or p.nodes p.history.line

abbrev pub from_registers : Printed → ℕ
from_registers p = line_or p.registers (from_nodes p)

abbrev pub from_words : Printed → ℕ
from_words p = line_or p.words (from_registers p)

-- ---- the rules, of a report whose instructions were executed

abbrev pub wrong_print : Executed → Printed → Option ℕ
wrong_print x p = first_other x.prints p.prints (from_words p)

abbrev pub wrong_word : Executed → Printed → Option ℕ
wrong_word x p = first_other (words_due x.flat) p.words (from_registers p)

abbrev pub wrong_register : Setup → Executed → Printed → Option ℕ
wrong_register s x p = first_other (all_registers_due s.shape.nodes x.flat) p.registers (from_nodes p)

abbrev pub agreement : List What
agreement = Word (codes "history") ∷ Word (codes "agrees") ∷ []

abbrev pub wrong_history : Printed → Option ℕ
wrong_history p = if says agreement (whats p.history.tokens) then None else Some p.history.line

-- The lines of a report beside the flat machine of its setup, which executes the instructions that completed, in the order of
-- the report: the acts; then the prints, the words and the registers, which are the machine's and no others; the nodes; and the
-- history. Denied by the first rule that is broken, at its first line.
unfoldable pub audited : Setup → Printed → Result Audited AuditError
audited s p =
    executed s.protocol (begun s) p.events >>= λ x.
    pass WrongPrint (wrong_print x p) >>= λ _.
    pass WrongWord (wrong_word x p) >>= λ _.
    pass WrongRegister (wrong_register s x p) >>= λ _.
    pass WrongNode (wrong_node p.events x.flat p.nodes) >>= λ _.
    pass WrongHistory (wrong_history p) >>= λ _.
    Ok (record { events = length p.events; completed = completed p.events })
