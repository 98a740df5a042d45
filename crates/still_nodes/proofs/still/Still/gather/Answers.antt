use Rattle.std.proofs.Common.{◌≡◌, ◌∙◌, ap, subst}
use Rattle.still_meaning.specs.Stills.{AreWhole, StillShown}
use Rattle.still_nodes.proofs.Collected.{collected, logs_of}
use Rattle.still_nodes.proofs.still.Still.gather.Goals as goal

pub returns-clause-gathered : goal.returns-clause-gathered
returns-clause-gathered c =
    let s = c.args.self in
    let whole : AreWhole s = subst (λ (x : StillShown). AreWhole x) c.self.view_is c.self.invariant in
    let nodes : c.self.inside.nodes.items ≡ s.nodes = ap (λ (x : StillShown). x.nodes) c.self.view_is in
    λ g still. collected s g _ whole c.requires.rest (record {
      logs = c.in_ok-logs.ensures ∙ ap logs_of nodes;
      finals = c.in_ok-finals.ensures;
      words = c.in_ok-words.ensures;
    }) still
