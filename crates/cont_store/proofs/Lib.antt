pub mod ChainLemmas
mod PackingLemmas
mod RoomLemmas
