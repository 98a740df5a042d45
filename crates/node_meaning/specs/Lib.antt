pub mod Tallies
pub mod Nodes
pub mod Stands
pub mod Sending
pub mod Handling
pub mod Laws
pub mod HandlerEvents
