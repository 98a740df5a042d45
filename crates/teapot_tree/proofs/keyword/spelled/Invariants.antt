use Rattle.std.proofs.Common.{◌≡◌, map, drop, None}
use Rattle.teapot_tree.specs.Keywords.{spelled}
use Rattle.teapot_tree.proofs.keyword.spelled.Given as goal

abbrev pub invariant-loop-entry : goal.invariant-loop-entry
invariant-loop-entry l = spelled (map (λ e. (e.0.now, e.1)) l.table) l.word None
    ≡ spelled (map (λ e. (e.0.now, e.1)) (drop l.entry-index l.table)) l.word None
