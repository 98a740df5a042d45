use Rattle.compiled_handlers_tests.specs.Alike.{Alike}
use Rattle.compiled_handlers_tests.proofs.worked.last_shown.Given as goal

abbrev pub invariant-loop-word : goal.invariant-loop-word
invariant-loop-word l = Alike l.p l.code (record { cell = l.both.cell; blocks = l.both.blocks; conts = l.both.conts }) l.both.here
