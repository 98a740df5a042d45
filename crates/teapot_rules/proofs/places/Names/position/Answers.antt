use Rattle.std.proofs.Common.{◌∙◌}
use Rattle.teapot_rules.proofs.places.Names.position.Goals as goal

pub returns : goal.returns
returns c = c.look.ensures ∙ c.args.self.now.placed c.args.name.now
