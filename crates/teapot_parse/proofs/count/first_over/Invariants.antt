use Rattle.std.proofs.Common.{◌≡◌, ◌≤◌, ◌+◌, drop}
use Rattle.teapot_parse.specs.Counting.{no_counts, first_over}
use Rattle.teapot_parse.proofs.count.first_over.Given as goal

abbrev pub invariant-loop-placed : goal.invariant-loop-placed
invariant-loop-placed l = (first_over l.counts (drop l.placed-index l.forms) ≡ first_over no_counts l.forms)
    × (l.counts.states + l.counts.messages + l.counts.handlers + l.counts.infos + l.counts.locals + l.counts.loops
    + l.counts.begins ≤ l.placed-index)
