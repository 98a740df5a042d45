pub mod Lawful
pub mod Standing
