use Rattle.std.proofs.Common.{◌∙◌, slice_get, ap}
use Rattle.stache_cases.specs.declared.rows.TheConstants.{ROWS}
use Rattle.stache_cases.proofs.Shown.{row_at}
use Rattle.stache_cases.proofs.rows.row.Goals as goal

pub returns : goal.returns
returns c = c.row_in.ensures ∙ ap (λ k. slice_get ROWS k) c.from.ensures ∙ row_at c.args.k
