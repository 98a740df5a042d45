pub mod Answering
pub mod Handlers
pub mod Marks
pub mod Passing
pub mod Variables
