use Rattle.std.proofs.Common.{subst, sym}
use Rattle.std.specs.Prelude.{IfOk}
use Rattle.code_walks.specs.Least.{IsLeast}
use Rattle.code_walks.specs.Parts.{AtOp}
use Rattle.code_rules.specs.Rules.{Breaks}
use Rattle.code_rules.specs.Tests.{BreaksAt}
use Rattle.code_rules.proofs.RuleLemmas.{ok_then, op_rule}
use Rattle.code_rules.proofs.verifier.least_place.Goals as goal

pub returns-in-Rests : goal.returns-in-Rests
returns-in-Rests c =
    subst (λ r. IfOk c.first_unplaced.result (λ o. IsLeast (λ at. Breaks c.args.code.now c.args.p.now at r) o))
    (sym c.in-Rests.is) c.first_unplaced.ensures

pub returns-in-Live : goal.returns-in-Live
returns-in-Live c = subst (λ r. IfOk c.first_losing.result (λ o. IsLeast (λ at. Breaks c.args.code.now c.args.p.now at r) o))
    (sym c.in-Live.is) c.first_losing.ensures

pub returns-in_default : goal.returns-in_default
returns-in_default c =
    let code = c.args.code.now in
    let p = c.args.p.now in
    let rule = c.args.rule in
    ok_then (λ o. IsLeast (AtOp code (BreaksAt p code rule)) o)
    (λ o. IsLeast (λ at. Breaks code p at rule) o) c.first_in_handlers.result
    (op_rule p code rule c.in_default.not-Rests c.in_default.not-Live c.in_default.not-Doors) c.first_in_handlers.ensures
