use Rattle.std.proofs.Common.{◌≡◌, drop, map}
use Rattle.teapot_tree.specs.declared.protocol.Param.{Param}
use Rattle.teapot_tree.specs.Rules.{are_fit, types_in}
use Rattle.teapot_rules.specs.Deeds.{scope_of}
use Rattle.teapot_check.proofs.fits.are_fit_params.Given as goal

abbrev pub invariant-loop-at : goal.invariant-loop-at
invariant-loop-at l =
    are_fit (map (λ (a : Param). a.ty) l.params) (types_in (scope_of l.sight.scope) l.args)
    ≡ are_fit (drop l.at (map (λ (a : Param). a.ty) l.params)) (types_in (scope_of l.sight.scope) (drop l.at l.args))
