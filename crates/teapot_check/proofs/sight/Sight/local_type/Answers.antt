use Rattle.std.proofs.Common.{◌-◌, ap, drop, length, ◌∙◌}
use Rattle.teapot_tree.specs.Scopes.{type_among}
use Rattle.teapot_rules.specs.Deeds.{scope_of}
use Rattle.teapot_check.specs.Variables.{variables_of}
use Rattle.teapot_check.proofs.Tables.{locals_are, take_rest}
use Rattle.teapot_check.proofs.sight.Sight.local_type.Goals as goal

pub returns : goal.returns
returns c =
    let vs = c.variables-all.result.now in
    let n = c.args.name.now in
    c.type_among.ensures
    ∙ ap (λ z. type_among (variables_of z) n) (take_rest (length vs - c.len.result) vs)
    ∙ ap (λ k. type_among (variables_of (drop (length vs - k) vs)) n) c.len.ensures
    ∙ ap (λ z. type_among z n) (locals_are vs (scope_of c.args.self.now.scope) c.variables-all.ensures)
