use Rattle.std.proofs.Common.{◌≡◌, drop}
use Rattle.sample_runs.specs.Summaries.{first_print}
use Rattle.sample_runs.proofs.text.first_print.Given as goal

-- the entries that are left have the first print
abbrev pub invariant-loop-entry : goal.invariant-loop-entry
invariant-loop-entry l = first_print l.node (drop l.entry-index l.journal) ≡ first_print l.node l.journal
