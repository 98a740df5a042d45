use Rattle.std.proofs.Common.{◌≡◌, sym, ◌∙◌}
use Rattle.teapot_rules.specs.Firsts.{first_of_rules, all_rules}
use Rattle.teapot_rules.proofs.Firstly.{is_first}
use Rattle.teapot_check.proofs.checker.check.Goals as goal

pub returns-in-Ok-Some : goal.returns-in-Ok-Some
returns-in-Ok-Some c =
    let found : c.in-Ok-Some.field-0 ≡ first_of_rules c.args.p all_rules = c.in-Ok-Some.ensures in
    is_first c.args.p c.in-Ok-Some.fault (sym found ∙ c.in-Ok-Some.field-0-is)
