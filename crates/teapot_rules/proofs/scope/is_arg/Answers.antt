use Rattle.std.proofs.Common.{is_some, ap, ◌∙◌}
use Rattle.teapot_rules.proofs.Placing.{place_of, among_placed}
use Rattle.teapot_rules.proofs.scope.is_arg.Goals as goal

pub returns : goal.returns
returns c =
    let n = c.args.name.now in
    c.is_some.ensures ∙ ap is_some (c.position.ensures ∙ ap (λ ns. place_of ns n) c.args.scope.now.tabled)
    ∙ among_placed c.args.scope.now.handler.now.args n
