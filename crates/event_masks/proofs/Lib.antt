mod Bits
pub mod Telling
mod Counting
