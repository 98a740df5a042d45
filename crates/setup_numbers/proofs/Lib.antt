mod Heads
pub mod Settings
pub mod Texts
