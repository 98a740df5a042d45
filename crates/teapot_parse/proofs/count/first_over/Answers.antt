use Rattle.std.proofs.Common.{ap, sym, ◌∙◌, arith}
use Rattle.teapot_parse.specs.declared.count.Counts.{Counts}
use Rattle.teapot_parse.specs.Counting.{over}
use Rattle.teapot_parse.proofs.Steps.{over-on, over-here, over-end}
use Rattle.teapot_parse.proofs.count.first_over.Goals as goal

pub returns-in-Some : goal.returns-in-Some
returns-in-Some c =
    sym (over-here c.args.forms.now c.loop-placed.placed-index _ c.loop-placed.counts c.in-Some.what _ c.loop-placed-test.true
    c.placed-item.is
    (ap (λ (k : Counts). over k c.placed-item.result.form) (sym c.counted-counts.ensures.value) ∙ sym c.over.ensures
    ∙ c.in-Some.is) c.loop-placed.invariant.0)

pub loop-placed-preserved : goal.loop-placed-preserved
loop-placed-preserved c = (
  rw c.counted-counts.ensures.value (over-on c.args.forms.now c.loop-placed.placed-index _ c.loop-placed.counts _
      c.loop-placed-test.true c.placed-item.is
      (ap (λ (k : Counts). over k c.placed-item.result.form) (sym c.counted-counts.ensures.value) ∙ sym c.over.ensures
      ∙ c.in_default.is) c.loop-placed.invariant.0),
  let one = c.counted-counts.ensures.one in let before = c.loop-placed.invariant.1 in omega arith,
)

pub returns : goal.returns
returns c =
    sym (over-end c.args.forms.now c.loop-placed.placed-index c.loop-placed.counts _ c.loop-placed-test.false
    c.loop-placed.invariant.0)
