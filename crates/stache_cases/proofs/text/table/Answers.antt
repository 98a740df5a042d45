use Rattle.stache_cases.proofs.Shown.{whole_text}
use Rattle.stache_cases.proofs.text.table.Goals as goal

pub returns : goal.returns
returns c = whole_text _ _ _ _ c.new-out.ensures c.in_ok-add_rows.ensures c.in_ok-add.ensures c.into_vec.ensures
