use Rattle.teapot_rules.specs.Deeds.{scope_of}
use Rattle.teapot_rules.proofs.Seeing.{assignable_among}
use Rattle.teapot_rules.proofs.scope.assigns.Goals as goal

pub returns : goal.returns
returns c = let e = assignable_among (scope_of c.args.scope.now) c.args.name.now in cc
