use Rattle.std.proofs.Common.{◌≡◌, drop, map}
use Rattle.teapot_lines.specs.Parts.{tails, spelled_param}
use Rattle.teapot_parse.specs.Trees.{typed_of}
use Rattle.teapot_print.specs.Printing.{put_all}
use Rattle.teapot_print.proofs.printer.Printer.more_params.Given as goal

abbrev pub invariant-params : goal.invariant-params
invariant-params l = put_all l.self (tails spelled_param (map typed_of (drop l.param-index l.params)))
    ≡ put_all l.initial.self (tails spelled_param (map typed_of l.params))
