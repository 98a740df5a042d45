use Rattle.std.proofs.Common.{◌≡◌, map, take}
use Rattle.teapot_tree.specs.Bare.{bare_message}
use Rattle.stache_check.specs.Words.{message_of}
use Rattle.stache_check.proofs.protocol.are_messages.Given as goal

abbrev pub invariant-loop-at : goal.invariant-loop-at
invariant-loop-at l = map bare_message (take l.at l.messages) ≡ map message_of (take l.at l.sents)
