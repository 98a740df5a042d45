use Rattle.std.proofs.Common.{sym, ◌∙◌}
use Rattle.teapot_rules.specs.Deeds.{scope_of}
use Rattle.teapot_rules.proofs.Stepping.{meets_here, meets_past}
use Rattle.teapot_check.specs.Passing.{looked}
use Rattle.teapot_check.proofs.passing.+finds.Goals as goal

pub finds-returns-then-finds_in : goal.finds-returns-then-finds_in
finds-returns-then-finds_in t c =
    meets_here (looked c.args.look (scope_of c.args.sight.now.scope)) c.args.stmts.now c.loop-s.s-index c.s-item.result
    c.loop-s-test.true c.s-item.is c.loop-s.invariant (sym c.finds_in.ensures ∙ c.if-finds_in.true)

pub finds-loop-s-preserved : goal.finds-loop-s-preserved
finds-loop-s-preserved t c =
    meets_past (looked c.args.look (scope_of c.args.sight.now.scope)) c.args.stmts.now c.loop-s.s-index c.s-item.result
    c.loop-s-test.true c.s-item.is c.loop-s.invariant (sym c.finds_in.ensures ∙ c.if-finds_in.false)
