pub mod Bounding
pub mod Meaning
pub mod Offering
pub mod Ordering
pub mod Posting
mod Staying
pub mod Widening
pub mod Widths
pub mod Writing
