pub mod Queues
pub mod Globals
pub mod Views
pub mod Kept
pub mod Makes
pub mod Posts
