use Rattle.std.proofs.Common.{◌≡◌, false, length, rules, subst, sym}
use Rattle.code_rules.specs.Rules.{IsFirstFault}
use Rattle.code_rules.specs.Structure.{is_structured}
use Rattle.code_rules.proofs.FaultLemmas.{unfit_is}
use Rattle.code_rules.proofs.verifier.verify.Goals as goal

pub returns-then-not-is_structured-clause-err : goal.returns-then-not-is_structured-clause-err
returns-then-not-is_structured-clause-err c =
    let code = c.args.code.now in
    let p = c.args.p.now in
    let unfit : is_structured p code ≡ false = search rules in
    subst (λ n. IsFirstFault code p n c.number-rule.result) (sym c.len-n.ensures)
    (subst (λ r. IsFirstFault code p (length code.ops) r) (sym c.number-rule.ensures) (unfit_is code p unfit))
