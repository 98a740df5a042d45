-- A cache that sent its words back is away.
use Rattle.std.proofs.Common.{ℕ, Bool, List, [], ◌∷◌}
use Rattle.std.specs.Bool.{Decides}
use Rattle.block_spots.specs.Cases.{State, HomeRw, HomeRo, HomeExcl, HomeAcks, HomePut, CacheInv, CacheRo, CacheRw, CacheWaitRo}
use Rattle.block_spots.specs.Cases.{CacheWaitRw}
use Rattle.block_spots.specs.Notes.{NPut}
use Rattle.coherence_inv.specs.Coherent.{GivesBack, IsAway}

pub put_away : (s : State) (n k : ℕ) (ws : List ℕ) (r : Bool) → Decides r (IsAway s n k) →
    Decides r (GivesBack s n k [] (NPut ws ∷ []))
put_away HomeRw n k ws r h = h
put_away HomeRo n k ws r h = h
put_away HomeExcl n k ws r h = h
put_away HomeAcks n k ws r h = h
put_away HomePut n k ws r h = h
put_away CacheInv n k ws r h = h
put_away CacheRo n k ws r h = h
put_away CacheRw n k ws r h = h
put_away CacheWaitRo n k ws r h = h
put_away CacheWaitRw n k ws r h = h
