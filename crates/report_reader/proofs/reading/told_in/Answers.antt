use Rattle.std.proofs.Common.{ℕ, ap, take, ◌∙◌}
use Rattle.std.proofs.lemmas.Result.{err_from_is_err_and}
use Rattle.tw_base.proofs.Answering.{Fails-along}
use Rattle.report_reader.specs.Reading.{is_memory}
use Rattle.report_reader.proofs.Telling.{Above, counts-fault, history-fault, nodes-fault, numbers-fault, ok-of, told-is}
use Rattle.report_reader.proofs.Telling.{told-with}
use Rattle.report_reader.proofs.reading.told_in.Goals as goal

pub returns-in_err-count : goal.returns-in_err-count
returns-in_err-count c =
    let above : Above c.args.shape c.args.lines.now c.parted.result.1.now c.parted-2.result.1.now c.parted-3.result.1.now =
    record {
      words_are = c.parted.ensures.behind;
      registers_are = c.parted-2.ensures.behind;
      nodes_are = c.parted-3.ensures.behind;
    } in
    let e = c.in_err-count.field-0.0 in
    let p = err_from_is_err_and c.from_residual.result c.from_residual.ensures.1 in
    rw (p.1, p.2) (Fails-along is_memory e _ _ (nodes-fault c.args.shape c.args.after c.args.lines.now _ _ _ e above)
    c.in_err-count.ensures.value)

pub returns-in_err-skipped : goal.returns-in_err-skipped
returns-in_err-skipped c =
    let above : Above c.args.shape c.args.lines.now c.parted.result.1.now c.parted-2.result.1.now c.parted-3.result.1.now =
    record {
      words_are = c.parted.ensures.behind;
      registers_are = c.parted-2.ensures.behind;
      nodes_are = c.parted-3.ensures.behind;
    } in
    let e = c.in_err-skipped.field-0.0 in
    let n = ok-of _ _ _ c.in_ok-count.ensures.value c.split_at.ensures.back in
    let p = err_from_is_err_and c.from_residual-in_err-skipped.result c.from_residual-in_err-skipped.ensures.1 in
    rw (p.1, p.2)
    (Fails-along is_memory e _ _ (counts-fault c.args.shape c.args.after c.args.lines.now _ _ _ c.split_at.result.1.now e
    above n) c.in_err-skipped.ensures.value)

pub returns-in_err-history : goal.returns-in_err-history
returns-in_err-history c =
    let above : Above c.args.shape c.args.lines.now c.parted.result.1.now c.parted-2.result.1.now c.parted-3.result.1.now =
    record {
      words_are = c.parted.ensures.behind;
      registers_are = c.parted-2.ensures.behind;
      nodes_are = c.parted-3.ensures.behind;
    } in
    let e = c.in_err-history.field-0.0 in
    let n = ok-of _ _ _ c.in_ok-count.ensures.value c.split_at.ensures.back in
    let k = ok-of _ _ _ c.in_ok-skipped.ensures.value c.split_at-2.ensures.back in
    let p = err_from_is_err_and c.from_residual-in_err-history.result c.from_residual-in_err-history.ensures.1 in
    rw (p.1, p.2)
    (Fails-along is_memory e _ _ (history-fault c.args.shape c.args.after c.args.lines.now _ _ _ c.split_at.result.1.now
    c.split_at-2.result.1.now c.parted-4.result.1.now e above n k c.parted-4.ensures.behind) c.in_err-history.ensures)

pub returns-in_err-numbered : goal.returns-in_err-numbered
returns-in_err-numbered c =
    let above : Above c.args.shape c.args.lines.now c.parted.result.1.now c.parted-2.result.1.now c.parted-3.result.1.now =
    record {
      words_are = c.parted.ensures.behind;
      registers_are = c.parted-2.ensures.behind;
      nodes_are = c.parted-3.ensures.behind;
    } in
    let e = c.in_err-numbered.field-0.0 in
    let n = ok-of _ _ _ c.in_ok-count.ensures.value c.split_at.ensures.back in
    let k = ok-of _ _ _ c.in_ok-skipped.ensures.value c.split_at-2.ensures.back in
    let p = err_from_is_err_and c.from_residual-in_err-numbered.result c.from_residual-in_err-numbered.ensures.1 in
    rw (p.1, p.2)
    (Fails-along is_memory e _ _ (numbers-fault c.args.shape c.args.after c.args.lines.now _ _ _ c.split_at.result.1.now
    c.split_at-2.result.1.now c.parted-4.result.1.now c.parted-4.result.0.now c.in_ok-history.history.now e above n k
    c.parted-4.ensures.behind c.parted-4.ensures.front c.in_ok-history.ensures) c.in_err-numbered.ensures)

pub returns : goal.returns
returns c =
    let above : Above c.args.shape c.args.lines.now c.parted.result.1.now c.parted-2.result.1.now c.parted-3.result.1.now =
    record {
      words_are = c.parted.ensures.behind;
      registers_are = c.parted-2.ensures.behind;
      nodes_are = c.parted-3.ensures.behind;
    } in
    let n = ok-of _ _ _ c.in_ok-count.ensures.value c.split_at.ensures.back in
    let k = ok-of _ _ _ c.in_ok-skipped.ensures.value c.split_at-2.ensures.back in
    let told = told-is c.args.shape c.args.after c.args.lines.now _ _ _ c.split_at.result.1.now c.split_at-2.result.1.now
    c.parted-4.result.1.now c.parted-4.result.0.now c.in_ok-history.history.now _ above n k c.parted-4.ensures.behind
    c.parted-4.ensures.front c.in_ok-history.ensures c.in_ok-numbered.ensures in
    told-with c.args.shape c.args.after c.args.lines.now _ _ _ _ c.in_ok-history.history.now c.parted.result.0.now
    c.parted-2.result.0.now c.parted-3.result.0.now c.split_at.result.0.now c.in_ok-report.report
    told c.parted.ensures.front c.parted-2.ensures.front c.parted-3.ensures.front
    (c.split_at.ensures.front ∙ ap (λ (m : ℕ). take m c.parted-3.result.1.now) c.in_ok-count.ensures.found) c.in_ok-report.ensures
