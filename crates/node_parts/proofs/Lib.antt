mod Bits
pub mod Masking
