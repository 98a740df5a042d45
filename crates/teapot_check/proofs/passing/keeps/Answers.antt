use Rattle.std.proofs.Common.{sym}
use Rattle.teapot_rules.specs.Deeds.{scope_of}
use Rattle.teapot_rules.specs.Faults.{body_lines}
use Rattle.teapot_check.proofs.Kept.{none_least}
use Rattle.teapot_check.proofs.passing.keeps.Goals as goal

pub returns-in-None : goal.returns-in-None
returns-in-None c = λ holds. none_least (body_lines c.args.rule (scope_of c.args.sight.now.scope)) (sym c.in-None.ensures)
