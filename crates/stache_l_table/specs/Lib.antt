pub mod Handling
pub mod Blocks
pub mod Laws
