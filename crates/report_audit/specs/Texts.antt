-- What is written of a report that stood trial.
use Rattle.std.specs.Prelude.{ℕ, codes, List, [], ◌∷◌}
use Rattle.std.specs.Fmt.{decimal}
use Rattle.printed_text.specs.Lines.{line}
use Rattle.report_reader.specs.declared.error.AuditRule.{AuditRule}
use Rattle.report_reader.specs.declared.error.AuditRule.TheVariants as rules
use Rattle.report_audit.specs.declared.auditing.Audited.{Audited}

abbrev pub rule_text : AuditRule → List ℕ
rule_text rules.BadLine = codes "BadLine"
rule_text rules.BadNumber = codes "BadNumber"
rule_text rules.WrongAct = codes "WrongAct"
rule_text rules.WrongPrint = codes "WrongPrint"
rule_text rules.WrongWord = codes "WrongWord"
rule_text rules.WrongRegister = codes "WrongRegister"
rule_text rules.WrongNode = codes "WrongNode"
rule_text rules.WrongHistory = codes "WrongHistory"
rule_text rules.NotEnabled = codes "NotEnabled"
rule_text rules.OtherEntry = codes "OtherEntry"
rule_text rules.TooFew = codes "TooFew"

abbrev pub audit_text : Audited → List ℕ
audit_text audited = line (codes "audit yes events" ∷ decimal audited.events ∷ codes "completed" ∷ decimal audited.completed ∷ [])

abbrev pub denied_text : ℕ → AuditRule → List ℕ
denied_text number rule = line (codes "denied line" ∷ decimal number ∷ rule_text rule ∷ [])
