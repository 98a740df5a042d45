use Rattle.std.proofs.Common.{◌≡◌, drop, map}
use Rattle.report_reader.specs.Slots.{fits, shown}
use Rattle.report_reader.proofs.form.fits.Given as goal

abbrev pub invariant-loop-at : goal.invariant-loop-at
invariant-loop-at l = fits l.shape l.before (map shown (drop l.at l.form)) (drop l.at l.tokens)
    ≡ fits l.shape l.before (map shown l.form) l.tokens
