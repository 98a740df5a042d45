-- The notes of the first messages of a list.
use Rattle.std.specs.Prelude.{ℕ, List, map, take}
use Rattle.block_spots.specs.Notes.{Note, notes}
use Rattle.block_spots.specs.Views.{seen_message}
use Rattle.tw_base.specs.declared.message.Message.{Message}

abbrev pub said_to : ℕ → ℕ → List Message → List Note
said_to b k ms = notes b (map seen_message (take k ms))
