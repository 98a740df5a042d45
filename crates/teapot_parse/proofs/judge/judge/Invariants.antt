use Rattle.std.proofs.Common.{◌≡◌, drop}
use Rattle.teapot_parse.specs.Nesting.{kinds, judged, judged_from}
use Rattle.teapot_parse.proofs.judge.judge.Given as goal

abbrev pub invariant-loop-at : goal.invariant-loop-at
invariant-loop-at l = judged_from l.blocks l.place l.at (kinds (drop l.at l.forms)) ≡ judged (kinds l.forms)
