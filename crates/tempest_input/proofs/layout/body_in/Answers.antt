use Rattle.tempest_input.proofs.Walking.{body-turn, body-end, body-none}
use Rattle.tempest_input.proofs.layout.body_in.Goals as goal

pub returns-then-is_end : goal.returns-then-is_end
returns-then-is_end c =
    rw c.of.ensures (body-end _ _ _ _ c.in-Some.line _ c.in-Some.ensures
    (rw (← c.items.ensures, ← c.head_of.ensures, ← c.is_end.ensures) c.if-is_end.true) c.loop-line.invariant)

pub loop-line-preserved : goal.loop-line-preserved
loop-line-preserved c =
    rw c.in_ok-push.ensures.items (body-turn _ _ _ _ c.in-Some.line _ c.in-Some.ensures
    (rw (← c.items.ensures, ← c.head_of.ensures, ← c.is_end.ensures) c.if-is_end.false) c.loop-line.invariant)

pub returns : goal.returns
returns c = rw (c.misfit.ensures, c.in_default.ensures.1) (body-none _ _ _ _ c.in_default.ensures.0 c.loop-line.invariant)
