-- What is owed to a home that collects acknowledgements.
use Rattle.std.specs.Prelude.{◌≡◌, ℕ, Bool, true, false}
use Rattle.tw_base.specs.Lists.{sum_below}
use Rattle.dsm_runs.specs.Setups.{Setup}
use Rattle.dsm_runs.specs.Worlds.{World}
use Rattle.block_spots.specs.Cases.{HomeAcks}
use Rattle.block_spots.specs.Notes.{Note, is_ack, is_inv, owes}
use Rattle.coherence_check.specs.Under.{home_under, spots_under}
use Rattle.stache_check.specs.declared.directory.Directory.{Directory}

-- an INV, or an ACK
abbrev pub owing : Bool → Note → ℕ
owing true = is_inv
owing false = is_ack

abbrev pub AcksFit : Directory → Setup → World → ℕ → Type 0
AcksFit d s g b = (home_under d s g b).state ≡ HomeAcks → (home_under d s g b).acks
    ≡ sum_below s.shape.nodes (λ j. owes (spots_under d s g b j))
