use Rattle.std.proofs.Common.{◌∙◌, ◌+◌, ◌*◌, ◌^◌, ◌<◌, ap, subst}
use Rattle.node_acts.proofs.Testing.{tests_told}
use Rattle.node_core.specs.States.{shown_of}
use Rattle.node_core.proofs.Early.{word_is}
use Rattle.node_core.proofs.tests.all_tests.Goals as goal

pub returns-clause-tests : goal.returns-clause-tests
returns-clause-tests c = λ code me.
    let e = c.early_fronts-early.ensures in
    let n = c.nodes-nodes.ensures.value ∙ ap (λ z. z.nodes) c.shape.ensures.value in
    tests_told (shown_of c.args.setup.now code me c.args.state.now) c.tests_word.result e.0 c.may_instruct-instructs.result
    c.may_handle_beside-handles.result c.has_eligible-eligible.result c.shape.ensures.valid.limits.nodes e.1
    c.may_instruct-instructs.ensures
    c.may_handle_beside-handles.ensures c.has_eligible-eligible.ensures
    (word_is c.args.setup.now.shape.nodes c.nodes-nodes.result c.tests_word.result e.0
    c.early_fronts-early.result c.may_instruct-instructs.result c.may_handle_beside-handles.result c.has_eligible-eligible.result
    c.both-redelivers.result n c.both-redelivers.ensures e.2 c.tests_word.ensures.tests)

pub returns-clause-small : goal.returns-clause-small
returns-clause-small c =
    subst (λ k. c.tests_word.result < 2 ^ (2 + 2 * k)) (c.nodes-nodes.ensures.value ∙ ap (λ z. z.nodes) c.shape.ensures.value)
    c.tests_word.ensures.small
