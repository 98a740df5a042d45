-- A report that was printed of a setup, read back.
use Rattle.std.specs.Prelude.{ℕ, List, Result}
use Rattle.tw_lex.specs.declared.token.Line.{Line}
use Rattle.dsm_runs.specs.Setups.{Setup}
use Rattle.report_reader.specs.declared.error.AuditError.{AuditError}
use Rattle.report_reader.specs.declared.lines.Printed.{Printed}
use Rattle.report_reader.specs.Reading.{read_in}

-- the lines of a report, in their order; a missing line is at `after`
abbrev pub report_in : Setup → ℕ → List Line → Result Printed AuditError
report_in s after lines = read_in s.version s.shape after lines
