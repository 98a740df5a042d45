pub mod States
pub mod Handlers
pub mod Steps
pub mod Testing
