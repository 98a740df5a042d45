use Rattle.std.proofs.Common.{◌≡◌, map, slice_get}
use Rattle.std.specs.Prelude.{true, false}
use Rattle.teapot_tree.specs.declared.protocol.Param.{Param}
use Rattle.teapot_tree.specs.Rules.{is_fit, type_in}
use Rattle.teapot_rules.specs.Deeds.{scope_of}
use Rattle.teapot_check.proofs.Fitting.{fit_here, fit_past}
use Rattle.teapot_check.proofs.fits.are_fit_params.Goals as goal

pub returns-then-not-is_fit : goal.returns-then-not-is_fit
returns-then-not-is_fit c =
    let types = map (λ (a : Param). a.ty) c.args.params.now in
    let f = type_in (scope_of c.args.sight.now.scope) in
    let misses : is_fit (slice_get types c.loop-at.at) (f c.index-args-at.result) ≡ false = cc in
    fit_here types f c.args.args.now c.loop-at.at c.index-args-at.result c.loop-at-test.true c.index-args-at.is
    c.loop-at.invariant misses

pub loop-at-preserved : goal.loop-at-preserved
loop-at-preserved c =
    let types = map (λ (a : Param). a.ty) c.args.params.now in
    let f = type_in (scope_of c.args.sight.now.scope) in
    let fits : is_fit (slice_get types c.loop-at.at) (f c.index-args-at.result) ≡ true = cc in
    fit_past types f c.args.args.now c.loop-at.at c.index-args-at.result c.loop-at-test.true c.index-args-at.is
    c.loop-at.invariant fits
