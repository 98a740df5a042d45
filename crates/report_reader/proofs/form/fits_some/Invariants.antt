use Rattle.std.proofs.Common.{◌≡◌, drop, map}
use Rattle.std.specs.List.{list_any}
use Rattle.report_reader.specs.Slots.{fits, shown}
use Rattle.report_reader.proofs.form.fits_some.Given as goal

abbrev pub invariant-loop-form : goal.invariant-loop-form
invariant-loop-form l =
    list_any (λ form. fits l.shape l.before form l.tokens) (map (λ form. map shown form.now) (drop l.form-index l.forms))
    ≡ list_any (λ form. fits l.shape l.before form l.tokens) (map (λ form. map shown form.now) l.forms)
