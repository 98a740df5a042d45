use Rattle.std.proofs.Common.{◌≡◌, map, ap, sym, ◌∙◌, subst}
use Rattle.teapot_lines.specs.Seen.{seen}
use Rattle.teapot_lines.specs.Lines.{form_of}
use Rattle.teapot_parse.specs.Parsing.{forms_read}
use Rattle.teapot_parse.proofs.Steps.{after_forms, bad-misses, forms-on, forms-bad, forms-end}
use Rattle.teapot_parse.proofs.reading.forms_read.Goals as goal

pub returns-in-Err-Bad : goal.returns-in-Err-Bad
returns-in-Err-Bad c =
    forms-bad c.args.profile c.in-Some.line _ c.lines.forms.items _
    (ap (λ ts. form_of c.args.profile (map (seen c.args.profile) ts)) (sym c.items.ensures)
    ∙ bad-misses c.in-Err-Bad.field-0 _ c.in-Err-Bad.field-0-is c.in-Err-Bad.ensures)
    (subst (λ ls. after_forms c.lines.forms.items (forms_read c.args.profile ls) ≡ forms_read c.args.profile c.args.lines)
    c.in-Some.ensures c.lines.invariant)

pub lines-preserved : goal.lines-preserved
lines-preserved c =
    rw c.in_ok-push.ensures.items (forms-on c.args.profile c.in-Some.line _ c.in-Ok.form c.lines.forms.items _
    (ap (λ ts. form_of c.args.profile (map (seen c.args.profile) ts)) (sym c.items.ensures) ∙ c.in-Ok.ensures)
    (subst (λ ls. after_forms c.lines.forms.items (forms_read c.args.profile ls) ≡ forms_read c.args.profile c.args.lines)
    c.in-Some.ensures c.lines.invariant))

pub returns : goal.returns
returns c = forms-end c.args.profile c.lines.forms.items _ (subst (λ ls. after_forms c.lines.forms.items
    (forms_read c.args.profile ls) ≡ forms_read c.args.profile c.args.lines) c.in_default.ensures.0 c.lines.invariant)
