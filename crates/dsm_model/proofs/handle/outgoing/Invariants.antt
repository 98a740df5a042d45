use Rattle.std.proofs.Common.{◌≡◌, map, take}
use Rattle.dsm_runs.specs.Messages.{message_of}
use Rattle.dsm_model.proofs.handle.outgoing.Given as goal

abbrev pub invariant-loop-out : goal.invariant-loop-out
invariant-loop-out l = l.sends ≡ map (message_of l.protocol l.from l.block l.stamp) (take l.out-index l.outs)
