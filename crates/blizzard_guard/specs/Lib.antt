pub mod Guarding
pub mod Running
