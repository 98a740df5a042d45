use Rattle.std.proofs.Common.{◌≡◌, true}
use Rattle.code_walks.specs.Kinds.{is_mistyped}
use Rattle.code_walks.proofs.Leasts.{none_more}
use Rattle.code_walks.proofs.TypeLemmas.{typed_here, typed_next, types_next}
use Rattle.code_walks.proofs.kinds.first_mistyped.Goals as goal

pub loop-at-preserved : goal.loop-at-preserved
loop-at-preserved c =
    let p = c.args.p.now in
    let code = c.args.code.now in
    let slots = c.args.slots.now in
    let from = c.args.part.door.at in
    let at = c.loop-at.at in
    let w = typed_next p slots c.op_at.result c.loop-at.stack c.in-Some.next c.in_ok-after.field-0 (cc) c.in_ok-after.ensures in
    record {
      stack = types_next p code slots from at c.loop-at.stack c.in-Some.next c.op_at.result c.loop-at.auto.at c.op_at.ensures
          c.loop-at.invariant.stack w.1;
      none = none_more from at (λ k. is_mistyped p code slots from k ≡ true) c.loop-at.invariant.none
          (typed_here p code slots from at c.loop-at.stack c.op_at.result c.op_at.ensures c.loop-at.invariant.stack w.0);
    }
