pub mod Sending
pub mod Opening
