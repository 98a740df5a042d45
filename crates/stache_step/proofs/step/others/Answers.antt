use Rattle.std.proofs.Common.{rules, ◌<◌, ◌∙◌, ap}
use Rattle.tw_base.specs.NodeSets.{count}
use Rattle.stache_step.proofs.Seen.{others_are}
use Rattle.stache_step.proofs.step.others.Goals as goal

pub returns : goal.returns
returns c =
    let below : c.args.sender < 8 = search rules in
    c.count.ensures.value ∙ ap count c.without.ensures ∙ others_are c.args.set c.args.sender c.has-eight.ensures.eight below
