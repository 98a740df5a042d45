pub mod Past
pub mod Shown
