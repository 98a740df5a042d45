use Rattle.std.proofs.Common.{◌≡◌, length}
use Rattle.teapot_parse.specs.Parsing.{forms_read}
use Rattle.teapot_parse.proofs.Steps.{after_forms}
use Rattle.teapot_parse.proofs.reading.forms_read.Given as goal

abbrev pub invariant-lines : goal.invariant-lines
invariant-lines l = after_forms l.forms.items (forms_read l.profile l.left) ≡ forms_read l.profile l.fn.lines

abbrev pub decreases-lines : goal.decreases-lines
decreases-lines l = length l.left
