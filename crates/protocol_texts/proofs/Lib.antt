pub mod Spelled
pub mod Tied
mod Found
