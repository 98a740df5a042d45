use Rattle.std.proofs.Common.{sym, ◌∙◌}
use Rattle.teapot_meaning.specs.Goes.{ends, goes_on}
use Rattle.teapot_meaning.proofs.Weights.{next_falls}
use Rattle.teapot_interpreter.proofs.interpreter.go.Goals as goal

pub steps-smaller : goal.steps-smaller
steps-smaller c =
    next_falls c.args.p.now c.steps.stmts c.in-On.rest c.steps.r c.in-On.after (sym c.in_ok-rest.ensures ∙ c.in-On.is)

pub steps-preserved : goal.steps-preserved
steps-preserved c = λ e h. c.steps.invariant e (goes_on (sym c.in_ok-rest.ensures ∙ c.in-On.is) h)

pub returns-in-Over : goal.returns-in-Over
returns-in-Over c = c.steps.invariant c.in-Over.end (ends (sym c.in_ok-rest.ensures ∙ c.in-Over.is))
