pub mod Words
pub mod Coherent
pub mod Weights
pub mod Parts
pub mod Laws
pub mod Potential
pub mod Ends
