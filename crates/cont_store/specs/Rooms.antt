-- A room with records.
use Rattle.std.specs.Prelude.{List, Option, map}
use Rattle.std.specs.Option.{option_map}
use Rattle.slab.specs.Slab.{Slab}
use Rattle.cont_store.specs.declared.record.Record.{Record}

-- the record at each place of a room
abbrev pub records_in : {T : Type 0} → (T → Record) → Slab T → List (Option Record)
records_in whole room = map (option_map whole) room.slots
