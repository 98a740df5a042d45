pub mod Elsewhere
pub mod Layers
