use Rattle.std.proofs.Common.{◌≡◌, [], take, drop}
use Rattle.teapot_rules.specs.Lists.{lesser, least, again}
use Rattle.teapot_check.proofs.again.again.Given as goal

abbrev pub invariant-loop-at : goal.invariant-loop-at
invariant-loop-at g l = least (again g.T.Declared.same_of g.T.Declared.line_of [] l.items)
    ≡ lesser l.least (least (again g.T.Declared.same_of g.T.Declared.line_of (take l.at l.items) (drop l.at l.items)))
