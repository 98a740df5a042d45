use Rattle.std.proofs.Common.{◌≡◌, subst, true}
use Rattle.code_walks.specs.Least.{IsLeast}
use Rattle.code_walks.specs.Parts.{Within}
use Rattle.code_rules.specs.Tests.{is_broken}
use Rattle.code_rules.proofs.RuleLemmas.{plain_rule}
use Rattle.code_rules.proofs.ops.first_in.Goals as goal

pub returns-in_ok-loops-in_default : goal.returns-in_ok-loops-in_default
returns-in_ok-loops-in_default c =
    plain_rule c.args.p.now c.args.code.now c.args.part c.args.rule c.first_op.result c.in_default.not-Stack
    c.in_default.not-Types
    (subst (λ z. IsLeast (Within c.args.part (λ at. is_broken z c.args.code.now c.args.part c.args.rule at ≡ true))
    c.first_op.result) c.protocol-protocol.ensures.value c.first_op.ensures)
