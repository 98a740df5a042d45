pub mod Parts
pub mod Truths
pub mod Masks
