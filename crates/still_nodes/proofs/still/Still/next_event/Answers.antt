use Rattle.std.proofs.Common.{◌∙◌, ap, subst}
use Rattle.dsm_runs.specs.Schedules.{chosen}
use Rattle.still_meaning.specs.Stills.{AreWhole, StillShown}
use Rattle.still_nodes.proofs.Choosing.{told_are_enabled}
use Rattle.still_nodes.proofs.Followed.{may_make_chosen, rests_where_none}
use Rattle.still_nodes.proofs.still.Still.next_event.Goals as goal

pub returns-clause-chosen : goal.returns-clause-chosen
returns-clause-chosen c = λ h s.
    let told = told_are_enabled c.args.self.now c.args.words.now h c.requires.told c.requires.spread s in
    c.choose.ensures ∙ ap (chosen c.args.stride c.args.turn) told

pub returns-clause-may : goal.returns-clause-may
returns-clause-may c =
    let whole : AreWhole c.args.self.now = subst (λ (s : StillShown). AreWhole s) c.self.view_is c.self.invariant in
    may_make_chosen _ _ _ _ whole c.requires.told c.requires.spread c.choose.result c.choose.ensures

pub returns-clause-rest : goal.returns-clause-rest
returns-clause-rest c =
    let whole : AreWhole c.args.self.now = subst (λ (s : StillShown). AreWhole s) c.self.view_is c.self.invariant in
    rests_where_none _ _ _ _ whole c.requires.told c.requires.spread c.choose.result c.choose.ensures
