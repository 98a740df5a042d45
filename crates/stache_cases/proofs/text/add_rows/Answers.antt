use Rattle.stache_cases.specs.Text.{row_line}
use Rattle.printed_text.proofs.Growing.{grown_at}
use Rattle.stache_cases.proofs.text.add_rows.Goals as goal

pub loop-number-preserved : goal.loop-number-preserved
loop-number-preserved c =
    grown_at (λ q. row_line q.0 q.1) c.args.out.now c.loop-number.out c.add_row.new.out c.args.rows.now c.loop-number.number _
    c.loop-number-test.true c.loop-number.invariant c.in_ok-add_row.ensures
