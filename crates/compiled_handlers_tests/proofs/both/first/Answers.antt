use Rattle.std.proofs.Common.{ap, arith}
use Rattle.compiled_handlers_tests.proofs.Standing.{started}
use Rattle.compiled_handlers_tests.proofs.both.first.Goals as goal

pub returns : goal.returns
returns c = λ code.
    started c.protocol-protocol.ensures.value c.blocks-2.view_is c.in_ok-here.ensures.fits
    (c.in_ok-here.ensures.stands c.first_cell-cell.ensures.cont code c.new-2.result)
    (omega (
      arith,
      c.if-get-blocks.false,
      c.get.ensures.value,
      c.blocks-3.ensures.value,
      ap (λ s. s.blocks) c.shape.ensures.value,
      c.in_ok-here.ensures.block,
    ))
