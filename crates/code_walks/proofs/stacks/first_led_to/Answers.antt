use Rattle.std.proofs.Common.{◌+◌, subst, sym}
use Rattle.code_walks.specs.Least.{IsLeast}
use Rattle.code_walks.specs.Stacks.{LeadsInside}
use Rattle.code_walks.proofs.Depths.{LedBefore, led_all, led_more}
use Rattle.code_walks.proofs.stacks.first_led_to.Goals as goal

pub loop-at-preserved : goal.loop-at-preserved
loop-at-preserved c =
    let code = c.args.code.now in
    let part = c.args.part in
    let one = subst (λ o. IsLeast (LeadsInside code part o) c.led_place.result) c.op_at.ensures c.led_place.ensures in
    subst (λ o. IsLeast (LedBefore code part (c.loop-at.at + 1)) o) (sym c.lesser-least.ensures)
    (led_more code part c.loop-at.at c.loop-at.least c.led_place.result c.loop-at.auto.at c.loop-at-test.true
    c.loop-at.invariant one)

pub returns : goal.returns
returns c = led_all c.args.p.now c.args.code.now c.args.part c.loop-at.at c.loop-at.least c.loop-at-test.false c.loop-at.invariant
