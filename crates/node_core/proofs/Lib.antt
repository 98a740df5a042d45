pub mod Sharing
pub mod Posted
pub mod HandlerRuns
pub mod Takes
pub mod Nodes
pub mod Stepping
pub mod Early
