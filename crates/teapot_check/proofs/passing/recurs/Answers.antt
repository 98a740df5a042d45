use Rattle.std.proofs.Common.{◌≡◌, ◌+◌, false, ap, sym, drop, take, ◌∙◌}
use Rattle.std.specs.Prelude.{◌||◌}
use Rattle.teapot_tree.specs.Scopes.{is_among}
use Rattle.teapot_check.specs.Passing.{recurs}
use Rattle.teapot_check.specs.Variables.{variables_of}
use Rattle.teapot_check.proofs.Tables.{recurs_more}
use Rattle.teapot_check.proofs.passing.recurs.Goals as goal

pub loop-at-preserved : goal.loop-at-preserved
loop-at-preserved c =
    let vs = c.args.variables.now in
    let i = c.loop-at.at in
    let v = c.index-variables-at.result in
    let none : is_among (variables_of (take i vs)) v.name.now ≡ false = sym c.has_variable.ensures ∙ c.if-has_variable.false in
    c.loop-at.invariant
    ∙ recurs_more vs i v c.loop-at-test.true c.index-variables-at.is
    ∙ ap (λ z. z || recurs (variables_of (take (i + 1) vs)) (variables_of (drop (i + 1) vs))) none
