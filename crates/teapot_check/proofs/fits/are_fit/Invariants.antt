use Rattle.std.proofs.Common.{◌≡◌, drop}
use Rattle.teapot_tree.specs.Rules.{are_fit, types_in}
use Rattle.teapot_rules.specs.Deeds.{scope_of}
use Rattle.teapot_check.proofs.fits.are_fit.Given as goal

abbrev pub invariant-loop-at : goal.invariant-loop-at
invariant-loop-at l = are_fit l.types (types_in (scope_of l.sight.scope) l.args)
    ≡ are_fit (drop l.at l.types) (types_in (scope_of l.sight.scope) (drop l.at l.args))
