-- What the three rooms of the store say of it.
use Rattle.slab.specs.Slab.{HasRoomFor}
use Rattle.cont_store.specs.declared.conts.Conts.TheInside.{Inside}
use Rattle.cont_store.specs.Packed.{small_whole, medium_whole}
use Rattle.cont_store.specs.Rooms.{records_in}
use Rattle.cont_store.specs.Store.{Store}

abbrev pub store_of : Inside → Store
store_of s =
    record {
      small = records_in small_whole s.small;
      medium = records_in medium_whole s.medium;
      large = s.large.slots;
      spare = s.spare;
    }

-- as many as are spare fit into each room
pub record HasRooms (s : Inside) : Type 0 where
  pub small : HasRoomFor s.small s.spare
  pub medium : HasRoomFor s.medium s.spare
  pub large : HasRoomFor s.large s.spare
