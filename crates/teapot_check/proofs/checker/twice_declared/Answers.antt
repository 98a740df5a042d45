use Rattle.std.proofs.Common.{◌≡◌, ap, ◌∙◌}
use Rattle.teapot_rules.specs.Faults.{again_messages, again_params, again_states}
use Rattle.teapot_rules.specs.Lists.{least}
use Rattle.teapot_check.proofs.checker.twice_declared.Goals as goal

pub returns : goal.returns
returns c =
    let messages : c.again.result ≡ least (again_messages c.args.p.now.messages) = c.again.ensures
    ∙ ap (λ z. least (again_messages z)) c.items-3.ensures in
    let infos : c.again-infos.result ≡ least (again_params c.args.p.now.infos) = c.again-infos.ensures
    ∙ ap (λ z. least (again_params z)) c.items.ensures in
    let states : c.again-states.result ≡ least (again_states c.args.p.now.states) = c.again-states.ensures
    ∙ ap (λ z. least (again_states z)) c.items-2.ensures in
    cc
