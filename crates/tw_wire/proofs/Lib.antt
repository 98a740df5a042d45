pub mod Steps
pub mod Places
pub mod Making
pub mod New
pub mod Closing
pub mod Keeping
