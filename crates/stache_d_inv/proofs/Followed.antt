-- After a fault the node's next instruction event completes the same access.
use Rattle.coherence_frame.proofs.Followed as frame
use Rattle.stache_d_inv.specs.Ends.{FaultsAreFollowed}
use Rattle.stache_d_inv.proofs.Scheme.{scheme}

pub faults_are_followed : FaultsAreFollowed
faults_are_followed = frame.faults_are_followed scheme
