use Rattle.std.proofs.Common.{◌≡◌, arith, ◌∙◌}
use Rattle.std.proofs.lemmas.Result.{err_from_is_err_and}
use Rattle.tw_base.proofs.Answering.{Fails-along}
use Rattle.report_reader.specs.Reading.{is_memory}
use Rattle.report_audit.proofs.Beginning.{ends, goes, stops}
use Rattle.report_audit.proofs.execute.execute.Goals as goal

pub returns-in_err-execute_line-clause-value : goal.returns-in_err-execute_line-clause-value
returns-in_err-execute_line-clause-value c =
    let p = c.args.setup.now.protocol in
    let same : c.in_ok-names.names.protocol.now ≡ p = c.in_ok-names.ensures ∙ c.protocol-2.ensures.value
    ∙ c.protocol.ensures.value in
    let e = c.in_err-execute_line.field-0.0 in
    let q = err_from_is_err_and c.from_residual-in_err-execute_line.result c.from_residual-in_err-execute_line.ensures.1 in
    rw (q.1, q.2)
    (Fails-along is_memory e _ _
    (stops p c.in_ok-names.names.protocol.now c.loop-line.done c.args.events.now c.loop-line.line-index c.line-item.result e _
    same c.loop-line-test.true c.line-item.is c.loop-line.invariant.value)
    c.in_err-execute_line.ensures.value)

pub loop-line-preserved : goal.loop-line-preserved
loop-line-preserved c =
    let p = c.args.setup.now.protocol in
    let same : c.in_ok-names.names.protocol.now ≡ p = c.in_ok-names.ensures ∙ c.protocol-2.ensures.value
    ∙ c.protocol.ensures.value in
    record {
      value =
          goes p c.in_ok-names.names.protocol.now c.loop-line.done c.execute_line.new.done c.args.events.now
          c.loop-line.line-index c.line-item.result _ same c.loop-line-test.true c.line-item.is
          c.in_ok-execute_line.ensures.value c.loop-line.invariant.value;
      cores = c.in_ok-execute_line.ensures.cores ∙ c.loop-line.invariant.cores;
    }

pub returns-clause-value : goal.returns-clause-value
returns-clause-value c = ends c.args.setup.now.protocol c.loop-line.done c.args.events.now c.loop-line.line-index _
    (omega arith) c.loop-line.invariant.value
