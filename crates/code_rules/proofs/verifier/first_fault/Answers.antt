use Rattle.std.proofs.Common.{◌≡◌, ◌+◌, ℕ, arith, subst, sym}
use Rattle.code_rules.specs.Faults.{FirstBelow}
use Rattle.code_rules.proofs.FaultLemmas.{first_more, first_none}
use Rattle.code_rules.proofs.verifier.first_fault.Goals as goal

pub loop-number-init : goal.loop-number-init
loop-number-init c = first_none c.args.code.now c.args.p.now

pub loop-number-preserved : goal.loop-number-preserved
loop-number-preserved c =
    let code = c.args.code.now in
    let p = c.args.p.now in
    subst (λ f. FirstBelow code p (c.loop-number.number + 1) f) (sym c.sooner-first.ensures)
    (first_more code p c.loop-number.number c.rule_of-rule.result c.loop-number.first c.in_ok-place.place
    c.rule_of-rule.ensures c.in_ok-place.ensures c.loop-number.invariant)

pub returns : goal.returns
returns c =
    let bound : ℕ = 10 in
    let e : c.loop-number.number ≡ bound = omega arith in
    subst (λ n. FirstBelow c.args.code.now c.args.p.now n c.loop-number.first) e c.loop-number.invariant
