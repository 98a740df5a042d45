use Rattle.teapot_rules.specs.Deeds.{scope_of}
use Rattle.teapot_rules.proofs.Seeing.{visible_among}
use Rattle.teapot_rules.proofs.scope.sees.Goals as goal

pub returns : goal.returns
returns c = let e = visible_among (scope_of c.args.scope.now) c.args.name.now in cc
