use Rattle.std.proofs.Common.{ap, sym, ◌∙◌}
use Rattle.teapot_parse.specs.Building.{built_on, built}
use Rattle.teapot_parse.proofs.Steps.{built-last}
use Rattle.teapot_parse.proofs.build.built.Goals as goal

pub lines-preserved : goal.lines-preserved
lines-preserved c =
    rw c.in_ok-with_line.ensures (sym (built-last c.lines.parts c.pop.new.self c.in-Some.field-0)
    ∙ ap (built_on c.lines.parts) (sym c.in-Some.ensures) ∙ c.lines.invariant)

pub returns : goal.returns
unfolding built_on
returns c = ap (built_on c.lines.parts) (sym c.in_default.ensures.0) ∙ c.lines.invariant ∙ ap built c.of-left.ensures
