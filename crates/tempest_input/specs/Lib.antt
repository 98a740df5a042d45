pub mod Heads
pub mod Laws
pub mod Layout
pub mod Numbers
pub mod Settings
