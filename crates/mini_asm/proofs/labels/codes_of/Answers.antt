use Rattle.std.specs.BTreeMap.{get_by}
use Rattle.std.specs.Cmp.Lexicographic.{slice_cmp}
use Rattle.std.specs.Ordering.{nat_cmp}
use Rattle.std.proofs.lemmas.Result.{err_from_is_err_and}
use Rattle.mini_asm.proofs.Codes.{turn, fault, end}
use Rattle.mini_asm.proofs.labels.codes_of.Goals as goal

pub returns-in_err-instr : goal.returns-in_err-instr
returns-in_err-instr c =
    let p = err_from_is_err_and c.from_residual.result c.from_residual.ensures.1 in
    rw (p.1, p.2) (fault (λ name. get_by (λ k. slice_cmp nat_cmp name k.now) c.args.places.now) c.args.written.now
    c.loop-w.instrs.items _ c.loop-w.w-index c.w-item.result
    c.in_err-instr.field-0.0 c.loop-w-test.true c.w-item.is c.in_err-instr.ensures c.loop-w.invariant)

pub loop-w-preserved : goal.loop-w-preserved
loop-w-preserved c =
    rw c.in_ok-push_some.ensures (turn (λ name. get_by (λ k. slice_cmp nat_cmp name k.now) c.args.places.now)
    c.args.written.now c.loop-w.instrs.items _ c.loop-w.w-index c.w-item.result
    _ c.loop-w-test.true c.w-item.is c.in_ok-instr.ensures c.loop-w.invariant)

pub returns : goal.returns
returns c = end (λ name. get_by (λ k. slice_cmp nat_cmp name k.now) c.args.places.now) c.args.written.now c.loop-w.instrs.items
    _ c.loop-w.w-index c.loop-w-test.false c.loop-w.invariant
