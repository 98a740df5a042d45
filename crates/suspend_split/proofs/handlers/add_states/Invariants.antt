use Rattle.std.proofs.Common.{◌≡◌, take}
use Rattle.compiled_meaning.specs.Whole.{entries_from}
use Rattle.suspend_split.specs.Drafts.{with_entries}
use Rattle.suspend_split.proofs.handlers.add_states.Given as goal

abbrev pub invariant-loop-number : goal.invariant-loop-number
invariant-loop-number l =
    l.code ≡ with_entries l.w.protocol.now l.initial.code (entries_from 0 (take l.number l.states))
