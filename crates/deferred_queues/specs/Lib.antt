pub mod Queues
pub mod Deferrals
