pub mod Copies
pub mod Packed
