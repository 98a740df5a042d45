pub mod Keeping
pub mod Sparing
pub mod Starting
pub mod Instructing
pub mod Performing
pub mod Testing
