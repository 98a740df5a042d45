pub mod Bits
pub mod Exact
