use Rattle.std.proofs.Common.{◌≡◌, ap, ◌∙◌}
use Rattle.teapot_tree.specs.declared.rule.Rule.TheVariants.{Twice}
use Rattle.teapot_tree.specs.Rules.{visible_names}
use Rattle.teapot_rules.specs.Deeds.{scope_of}
use Rattle.teapot_rules.specs.Faults.{again_names, body_lines, handler_lines}
use Rattle.teapot_rules.specs.Lists.{least}
use Rattle.teapot_rules.proofs.Appending.{least-append}
use Rattle.teapot_check.proofs.checker.handler_line.Goals as goal

pub returns-in_ok-later-in-Twice : goal.returns-in_ok-later-in-Twice
returns-in_ok-later-in-Twice c =
    let names : c.in_ok-later-in-Twice.later ≡ least (again_names (visible_names (scope_of c.args.sight.now.scope))) =
    c.in_ok-later-in-Twice.ensures ∙ ap (λ z. least (again_names z)) (c.items.ensures ∙ c.in_ok-names-in-Twice.ensures) in
    let body : c.body_line-in-Twice.result ≡ least (body_lines Twice (scope_of c.args.sight.now.scope)) =
    c.body_line-in-Twice.ensures ∙ ap (λ z. least (body_lines z (scope_of c.args.sight.now.scope))) c.in-Twice.is in
    let rule = ap (λ z. least (handler_lines z (scope_of c.args.sight.now.scope))) c.in-Twice.is in
    let both = least-append (again_names (visible_names (scope_of c.args.sight.now.scope)))
    (body_lines Twice (scope_of c.args.sight.now.scope)) in
    cc
