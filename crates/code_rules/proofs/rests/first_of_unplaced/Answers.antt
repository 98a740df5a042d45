use Rattle.std.proofs.Common.{◌≡◌, ◌+◌, arith, false, subst, sym}
use Rattle.code_walks.specs.Least.{IsLeast}
use Rattle.code_rules.specs.Serving.{is_placed}
use Rattle.code_rules.proofs.Doorways.{RestBefore, rest_all, rest_more}
use Rattle.code_rules.proofs.RestLemmas.{unplaced_here}
use Rattle.code_rules.proofs.rests.first_of_unplaced.Goals as goal

pub loop-number-preserved : goal.loop-number-preserved
loop-number-preserved c =
    let code = c.args.code.now in
    subst (λ o. IsLeast (RestBefore code (λ number rest. is_placed code number rest ≡ false) (c.loop-number.number + 1)) o)
    (sym c.lesser-least.ensures)
    (rest_more code (λ number rest. is_placed code number rest ≡ false) c.loop-number.number c.rest_at-rest.result
    c.loop-number.least c.place_unless.result
    c.rest_at-rest.ensures c.loop-number.invariant
    (unplaced_here code c.loop-number.number c.rest_at-rest.result c.is_placed-placed.result c.place_unless.result
    c.is_placed-placed.ensures c.place_unless.ensures))

pub returns : goal.returns
returns c = rest_all c.args.code.now (λ number rest. is_placed c.args.code.now number rest ≡ false) c.loop-number.number
    c.loop-number.least (omega (arith, c.len-number-end.ensures)) c.loop-number.invariant
