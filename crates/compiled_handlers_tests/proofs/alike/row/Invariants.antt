use Rattle.compiled_handlers_tests.specs.Alike.{Alike}
use Rattle.compiled_handlers_tests.proofs.alike.row.Given as goal

abbrev pub invariant-loop-k : goal.invariant-loop-k
invariant-loop-k g l = Alike l.p l.code (record { cell = l.both.cell; blocks = l.both.blocks; conts = l.both.conts }) l.both.here
