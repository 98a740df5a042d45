pub mod Placing
pub mod Opened
pub mod Ran
pub mod Sharing
