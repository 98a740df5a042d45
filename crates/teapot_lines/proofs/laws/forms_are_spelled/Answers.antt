use Rattle.teapot_lines.proofs.FormLaws.{form-found, form-again}
use Rattle.teapot_lines.proofs.laws.forms_are_spelled.Goals as goal

pub returns : goal.returns
returns c = record { found = form-found; again = form-again }
