use Rattle.std.proofs.Common.{List, length, ap, arith}
use Rattle.tw_base.specs.declared.message.Message.{Message}
use Rattle.dsm_model.proofs.Keeping.{few_held}
use Rattle.dsm_model.proofs.global.Global.held.Goals as goal

pub overflow_cast-result : goal.overflow_cast-result
overflow_cast-result c =
    let g = c.args.self.now in
    omega (
      arith,
      c.len.ensures,
      ap (λ (ms : List Message). length ms) c.wire.ensures,
      few_held g.setup.now g.locals.items g.outboxes.items g.kept c.args.from c.args.to c.args.chan,
    )
