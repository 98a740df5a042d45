use Rattle.compiled_handlers_tests.specs.Alike.{Alike}
use Rattle.compiled_handlers_tests.specs.Beside.{IsBeside}
use Rattle.compiled_handlers_tests.proofs.beside.turns.Given as goal

abbrev pub invariant-loop-block : goal.invariant-loop-block
invariant-loop-block g l = record {
  alike : Alike l.p l.code (record { cell = l.both.cell; blocks = l.both.blocks; conts = l.both.conts }) l.both.here;
  beside : IsBeside l.p l.code (record { cell = l.both.cell; blocks = l.both.blocks; conts = l.both.conts }) l.both.here.block
      l.side.cell l.side.here;
}
