pub mod Meant
pub mod Only
pub mod Seen
pub mod Within
