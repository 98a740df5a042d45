pub mod Coherent
pub mod Copies
pub mod Parts
pub mod Laws
