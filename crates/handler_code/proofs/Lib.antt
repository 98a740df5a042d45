mod Ends
pub mod Sharing
