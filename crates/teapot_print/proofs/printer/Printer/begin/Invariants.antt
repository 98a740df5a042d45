use Rattle.std.proofs.Common.{◌≡◌, ◌++◌}
use Rattle.teapot_print.specs.Text.{spaces}
use Rattle.teapot_print.proofs.printer.Printer.begin.Given as goal

abbrev pub invariant-spaces : goal.invariant-spaces
invariant-spaces l = l.self ≡ record l.initial.self { text = l.initial.self.text ++ spaces l.counter }
