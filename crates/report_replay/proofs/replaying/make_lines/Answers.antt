use Rattle.std.proofs.Common.{[], ◌∷◌, Err, ◌∙◌}
use Rattle.std.proofs.lemmas.Result.{err_from_is_err_and}
use Rattle.dsm_model.specs.Globals.{setup_of, world_of}
use Rattle.report_reader.specs.Reading.{is_memory}
use Rattle.report_replay.specs.Replaying.{Leads}
use Rattle.report_replay.proofs.Leading.{answers-along, turn-off, turn-on}
use Rattle.report_replay.proofs.replaying.make_lines.Goals as goal

pub returns-in_err-make_line-clause-value : goal.returns-in_err-make_line-clause-value
returns-in_err-make_line-clause-value c =
    let s = setup_of c.args.g.now in
    let t = setup_of c.loop-number.g in
    let g = world_of c.loop-number.g in
    let lines = c.args.lines.now in
    let k = c.loop-number.number in
    let l = c.index-lines-number.result in
    let e = c.in_err-make_line.field-0.0 in
    let q = err_from_is_err_and c.from_residual.result c.from_residual.ensures.1 in
    rw (q.1, q.2)
    (answers-along (is_memory e) e (λ end. Leads t g k (l ∷ []) end) (λ end. Leads s (world_of c.args.g.now) 0 lines end)
    (λ h. c.loop-number.invariant.before (Err e) (turn-off s t g lines k l e c.loop-number.invariant.setup
    c.loop-number-test.true c.index-lines-number.is h)) c.in_err-make_line.ensures.value)

pub loop-number-preserved : goal.loop-number-preserved
loop-number-preserved c =
    let s = setup_of c.args.g.now in
    let t = setup_of c.loop-number.g in
    let g = world_of c.loop-number.g in
    record {
      setup = c.in_ok-make_line.ensures.setup ∙ c.loop-number.invariant.setup;
      before = λ end rest.
          c.loop-number.invariant.before end
          (turn-on s t g c.args.lines.now c.loop-number.number c.index-lines-number.result
          (world_of c.make_line.new.g) end c.loop-number.invariant.setup c.loop-number-test.true c.index-lines-number.is
          c.in_ok-make_line.ensures.value rest);
    }
