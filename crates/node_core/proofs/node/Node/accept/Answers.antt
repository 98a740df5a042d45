use Rattle.std.proofs.Common.{◌≡◌, None, arith, subst, sym}
use Rattle.node_core.specs.States.{shown_of}
use Rattle.node_meaning.specs.Nodes.{Shown, accepted_at, front_at}
use Rattle.node_meaning.specs.Stands.{IsFit, StandsAsBefore}
use Rattle.node_core.proofs.Nodes.{fit_small, front_node, front_standing, number_small}
use Rattle.node_core.proofs.node.Node.accept.Goals as goal

pub keep-requires : goal.keep-requires
keep-requires c =
    let n = c.self.inside in
    let m = c.args.m in
    number_small n.setup.now n.code.now n.me n.state m c.self.invariant
    (omega (arith, c.handled_of-handled.ensures.few, c.handled_of-handled.ensures.value))
    (subst (λ (x : Shown). front_at x m.from m.chan ≡ None) (sym c.self.view_is) c.requires.free)
    (subst (λ (x : Shown). m.number ≡ accepted_at x m.from m.chan) (sym c.self.view_is) c.requires.number)

pub invariant_of-self : goal.invariant_of-self
invariant_of-self c =
    let n = c.self.inside in
    let m = c.args.m in
    let fit = subst (λ (x : Shown). IsFit x.setup m.from x.me m) (sym c.self.view_is) c.requires.fit in
    front_node n.setup.now n.code.now n.me n.state m c.keep.new.self c.keep.ensures.items c.keep.ensures.accepted c.self.invariant
    (fit_small n.setup.now n.code.now n.me n.state m c.self.invariant fit)
    (subst (λ (x : Shown). front_at x m.from m.chan ≡ None) (sym c.self.view_is) c.requires.free) fit
    (subst (λ (x : Shown). m.number ≡ accepted_at x m.from m.chan) (sym c.self.view_is) c.requires.number)

pub returns-clause-stands : goal.returns-clause-stands
returns-clause-stands c =
    let n = c.self.inside in
    let m = c.args.m in
    let fit = subst (λ (x : Shown). IsFit x.setup m.from x.me m) (sym c.self.view_is) c.requires.fit in
    subst (λ (o : Shown). StandsAsBefore o (shown_of n.setup.now n.code.now n.me
    (record n.state { fronts = c.keep.new.self }))) c.self.view_is
    (front_standing n.setup.now n.code.now n.me n.state m c.keep.new.self c.keep.ensures.items c.keep.ensures.accepted
    c.self.invariant
    (fit_small n.setup.now n.code.now n.me n.state m c.self.invariant fit)
    (subst (λ (x : Shown). front_at x m.from m.chan ≡ None) (sym c.self.view_is) c.requires.free)
    (subst (λ (x : Shown). m.number ≡ accepted_at x m.from m.chan) (sym c.self.view_is) c.requires.number))
