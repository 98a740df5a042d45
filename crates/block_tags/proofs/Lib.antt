mod Bits
mod Tags
pub mod Slices
mod Words
