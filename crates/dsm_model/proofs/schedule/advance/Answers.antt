use Rattle.std.proofs.Common.{◌≡◌, None, rules, refl, sym, ◌∙◌}
use Rattle.dsm_model.specs.Globals.{setup_of, world_of}
use Rattle.dsm_runs.specs.Schedules.{all_events, enabled_events}
use Rattle.dsm_runs.proofs.Scheduling.{chosen_enabled, none_left}
use Rattle.dsm_model.proofs.schedule.advance.Goals as goal

pub returns-in_default-clause-step : goal.returns-in_default-clause-step
returns-in_default-clause-step c =
    let s = setup_of c.args.g.now in
    let g = world_of c.args.g.now in
    let due : c.items.result.now ≡ enabled_events s g = c.items.ensures ∙ c.in_ok-some.ensures in
    let none : c.chosen.result ≡ None = search rules in
    (refl, sym due ∙ none_left c.args.stride c.args.turn c.items.result.now (sym c.chosen.ensures ∙ none))

pub step-requires : goal.step-requires
step-requires c =
    let s = setup_of c.args.g.now in
    let g = world_of c.args.g.now in
    chosen_enabled s g c.args.stride c.args.turn c.items.result.now (all_events s.shape.nodes) c.in-Some.e
    (c.items.ensures ∙ c.in_ok-some.ensures) (sym c.in-Some.ensures)
