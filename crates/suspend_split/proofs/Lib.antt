pub mod Complete
pub mod Counts
pub mod Entries
pub mod More
