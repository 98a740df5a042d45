-- Messages that may be delivered, a bit each.
use Rattle.std.specs.Prelude.{◌≡◌, ℕ, ◌<◌, List, Option, None, length}
use Rattle.std.specs.List.{slice_index_or}
use Rattle.tw_base.specs.Bits.{has_bit}
use Rattle.tw_base.specs.declared.message.Message.{Message}
use Rattle.dsm_runs.specs.Tests.{is_early}

-- bit k tells whether a message is kept at place k whose stamp is below the last; there are sixteen places
pub record IsMask (items : List (Option Message)) (bits : ℕ) : Type 0 where
  pub places : length items ≡ 16
  pub early : (k : ℕ) → k < 32 → has_bit bits k ≡ is_early (slice_index_or items k None)
