use Rattle.std.proofs.Common.{length}
use Rattle.tw_wire.proofs.close.+close_rows.Given as goal

abbrev pub decreases-close_rows : goal.decreases-close_rows
decreases-close_rows g l = length l.rows.now
