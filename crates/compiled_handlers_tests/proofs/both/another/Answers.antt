use Rattle.std.proofs.Common.{◌≡◌, ◌∙◌, nat_eq, true, refl, sym, ap, arith, eq-eqb}
use Rattle.compiled_handlers_tests.proofs.Parting.{none_apart}
use Rattle.compiled_handlers_tests.proofs.Standing.{started}
use Rattle.compiled_handlers_tests.proofs.both.another.Goals as goal

pub returns : goal.returns
returns c = λ code. record {
  alike = started c.protocol-protocol.ensures.value refl c.in_ok-here.ensures.fits
      (c.in_ok-here.ensures.stands c.first_cell-cell.ensures.cont code c.args.both.now.conts)
      (omega (
        arith,
        c.if-get-blocks.false,
        c.get.ensures.value,
        c.blocks-2.ensures.value,
        ap (λ s. s.blocks) c.shape.ensures.value,
        c.in_ok-here.ensures.block,
      ));
  differs = λ e.
      let same : nat_eq c.args.block c.args.both.now.here.block ≡ true =
      eq-eqb c.args.block c.args.both.now.here.block (sym c.in_ok-here.ensures.block ∙ e) in
      cc (c.eq.ensures, c.if-eq.false, same);
  apart = none_apart _ _ _ c.first_cell-cell.ensures.cont;
}
