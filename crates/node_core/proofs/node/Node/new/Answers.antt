use Rattle.std.proofs.Common.{◌∙◌, ap, false}
use Rattle.node_acts.proofs.Starting.{no_front}
use Rattle.node_meaning.specs.Nodes.{Shown, front_at}
use Rattle.node_core.proofs.Nodes.{start_node, start_stands}
use Rattle.node_core.proofs.node.Node.new.Goals as goal

pub invariant_of-result : goal.invariant_of-result
invariant_of-result c =
    let x = c.in_ok-state.ensures in
    start_node c.args.setup.now c.args.code.now c.args.me c.in_ok-state.state x.shown x.inside x.valid c.requires.code
    c.requires.short
    c.requires.me x.whole

pub returns-clause-fronts : goal.returns-clause-fronts
returns-clause-fronts c = λ f ch.
    ap (λ (n : Shown). front_at n f ch) c.in_ok-state.ensures.shown
    ∙ no_front c.args.setup.now c.args.code.now c.args.me c.in_ok-state.state.conts false f ch

pub returns-clause-stands : goal.returns-clause-stands
returns-clause-stands c =
    start_stands c.args.setup.now c.args.code.now c.args.me c.in_ok-state.state c.in_ok-state.ensures.shown
    c.in_ok-state.ensures.valid
