pub mod Counts
pub mod Deferring
pub mod Notes
