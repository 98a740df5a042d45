pub mod Enumerating
pub mod Growing
pub mod Lines
mod Writing
