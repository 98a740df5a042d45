use Rattle.teapot_lines.proofs.Depths.{cut-within}
use Rattle.teapot_lines.proofs.laws.cuts_keep_depth.Goals as goal

pub returns : goal.returns
returns c = record { kept = λ e le. (cut-within e).0 le; deep = λ e lt. (cut-within e).1 lt }
