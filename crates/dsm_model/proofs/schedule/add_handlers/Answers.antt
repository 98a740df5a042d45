use Rattle.std.proofs.Common.{◌≡◌, true, false, List, rules, subst}
use Rattle.std.specs.Prelude.{OnOk}
use Rattle.tw_base.specs.declared.entry.Event.{Event}
use Rattle.dsm_runs.specs.Tests.{has_eligible, may_handle}
use Rattle.dsm_model.specs.Globals.{setup_of, world_of}
use Rattle.dsm_model.proofs.Choosing.{none_handled, one_redelivered}
use Rattle.dsm_model.proofs.schedule.add_handlers.Goals as goal

pub returns-then-not-may_handle : goal.returns-then-not-may_handle
returns-then-not-may_handle c =
    let s = setup_of c.args.g.now in
    let g = world_of c.args.g.now in
    let none : may_handle s (g.locals c.args.node) ≡ false = search rules in
    none_handled s g c.args.node s.shape.nodes c.args.some.now none

pub returns-then-has_eligible : goal.returns-then-has_eligible
returns-then-has_eligible c =
    let s = setup_of c.args.g.now in
    let g = world_of c.args.g.now in
    let may : may_handle s (g.locals c.args.node) ≡ true = search rules in
    let some : has_eligible (g.locals c.args.node).deferred ≡ true = search rules in
    subst (λ (es : List Event). OnOk c.push.result (c.push.new.self ≡ es))
    (one_redelivered s g c.args.node s.shape.nodes c.args.some.now c.requires may some) c.push.ensures.ok
