pub mod Compiled
pub mod Follows
pub mod Stands
pub mod Whole
