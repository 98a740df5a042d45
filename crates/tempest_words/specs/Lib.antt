pub mod Errors
pub mod Lines
pub mod Parting
pub mod Parts
pub mod Words
