pub mod Directories
pub mod Seeing
