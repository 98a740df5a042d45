pub mod Packed
pub mod Packing
pub mod Parts
pub mod Rooms
pub mod Store
