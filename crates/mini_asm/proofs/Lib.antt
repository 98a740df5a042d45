pub mod Codes
pub mod Fronts
pub mod Places
pub mod Reading
pub mod Spelled
pub mod Starts
pub mod Steps
pub mod Versions
