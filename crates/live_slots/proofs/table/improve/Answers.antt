use Rattle.std.proofs.Common.{length, refl, sym, subst, arith}
use Rattle.std.proofs.lemmas.Option.{slice_get_read}
use Rattle.live_slots.specs.Tables.{IsJustified, IsStep}
use Rattle.live_slots.proofs.Exact.{justified_set}
use Rattle.live_slots.proofs.table.improve.Goals as goal

pub returns-clause-justified : goal.returns-clause-justified
returns-clause-justified c = λ j.
    let ops = c.args.ops.now in
    let here = slice_get_read ops (length ops) c.args.at c.index-ops-at.result refl c.requires.within c.index-ops-at.is in
    let step = subst (λ t. IsStep c.index-ops-at.result c.args.at t c.step-slots.result) c.items.ensures c.step-slots.ensures in
    subst (IsJustified ops) (sym c.set.ensures) (justified_set ops c.args.table.now c.args.at c.step-slots.result
    c.index-ops-at.result j here (omega arith) step)
