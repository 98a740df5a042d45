use Rattle.stache_step.proofs.Meant.{row_is_meant}
use Rattle.stache_step.proofs.Only.{only_row}
use Rattle.stache_step.proofs.step.table_step.Goals as goal

pub returns : goal.returns
returns c = record {
  value = c.row_seen.ensures;
  meaning =
      row_is_meant c.table_is_the_meaning.ensures c.rows_say_the_table.ensures c.blocks_are_read.ensures c.args.here.now
      c.args.m.now c.row_seen.result c.row_seen.ensures;
  only = only_row c.table_is_the_meaning.ensures c.blocks_are_read.ensures c.args.here.now c.args.m.now c.row_seen.result
      c.row_seen.ensures;
}
