use Rattle.std.proofs.Common.{drop}
use Rattle.node_core.proofs.Posted.{IsPosting}
use Rattle.node_core.proofs.posting.post_all.Given as goal

abbrev pub invariant-loop-message : goal.invariant-loop-message
invariant-loop-message l = IsPosting l.stamp l.sends (drop l.message-index l.sends) l.initial.out l.out
