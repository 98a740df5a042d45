use Rattle.std.proofs.Common.{sym, ◌∙◌}
use Rattle.teapot_rules.specs.Deeds.{comes_first}
use Rattle.teapot_rules.proofs.Stepping.{meets_here, meets_past}
use Rattle.teapot_rules.proofs.walk.+meets.Goals as goal

pub meets-returns-then-meets_in : goal.meets-returns-then-meets_in
meets-returns-then-meets_in t c =
    meets_here (comes_first c.args.rule) c.args.stmts.now c.loop-s.s-index c.s-item.result c.loop-s-test.true c.s-item.is
    c.loop-s.invariant (sym c.meets_in.ensures ∙ c.if-meets_in.true)

pub meets-loop-s-preserved : goal.meets-loop-s-preserved
meets-loop-s-preserved t c =
    meets_past (comes_first c.args.rule) c.args.stmts.now c.loop-s.s-index c.s-item.result c.loop-s-test.true c.s-item.is
    c.loop-s.invariant (sym c.meets_in.ensures ∙ c.if-meets_in.false)
