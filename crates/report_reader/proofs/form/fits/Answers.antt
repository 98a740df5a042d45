use Rattle.std.proofs.Common.{arith}
use Rattle.report_reader.proofs.Fitting.{fits-ends, fits-goes, fits-stops, fits-unlike}
use Rattle.report_reader.proofs.form.fits.Goals as goal

pub returns-then-form-tokens : goal.returns-then-form-tokens
returns-then-form-tokens c = fits-unlike _ _ c.args.form.now c.args.tokens.now c.if-form-tokens.true

pub returns-then-not-fits_what : goal.returns-then-not-fits_what
returns-then-not-fits_what c =
    fits-stops c.args.shape c.args.before c.args.form.now c.args.tokens.now c.loop-at.at _ c.index-tokens-at.result
    c.fits_what.result _ c.loop-at-test.true (omega arith) c.fits_what.ensures
    c.if-not-fits_what.true c.loop-at.invariant

pub loop-at-preserved : goal.loop-at-preserved
loop-at-preserved c =
    fits-goes c.args.shape c.args.before c.args.form.now c.args.tokens.now c.loop-at.at _ c.index-tokens-at.result
    c.fits_what.result _ c.loop-at-test.true (omega arith) c.fits_what.ensures
    c.if-not-fits_what.false c.loop-at.invariant

pub returns : goal.returns
returns c = fits-ends c.args.shape c.args.before c.args.form.now c.args.tokens.now c.loop-at.at _ (omega arith)
    (omega arith) c.loop-at.invariant
