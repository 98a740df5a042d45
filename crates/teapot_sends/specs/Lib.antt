pub mod Counts
pub mod Prices
