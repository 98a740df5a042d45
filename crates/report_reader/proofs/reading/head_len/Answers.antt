use Rattle.report_reader.proofs.Telling.{head-past}
use Rattle.report_reader.proofs.reading.head_len.Goals as goal

pub returns-in-len1-up-clause-value : goal.returns-in-len1-up-clause-value
returns-in-len1-up-clause-value c =
    head-past c.args.version c.args.shape c.args.after c.args.lines.now c.line-item.result c.items.result.now c.is_head.result
    c.in-len1-up.len_at_least c.line-item.is c.items.ensures c.is_head.ensures
    c.if-is_head.true
