use Rattle.std.proofs.Common.{◌≡◌, take}
use Rattle.std.specs.Prelude.{map}
use Rattle.suspend_split.specs.Drafts.{entry_in, with_entries}
use Rattle.suspend_split.proofs.handlers.add_handlers.Given as goal

abbrev pub invariant-loop-handler : goal.invariant-loop-handler
invariant-loop-handler l =
    l.code ≡ with_entries l.w.protocol.now l.initial.code (map (entry_in l.number l.state)
    (take l.handler-index l.state.handlers))
