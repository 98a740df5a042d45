pub mod Starts
pub mod Early
