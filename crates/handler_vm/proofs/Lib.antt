mod Acting
pub mod Chaining
mod Entering
mod Finding
mod Going
mod Parting
mod Saving
mod Sent
mod Stacks
mod Stopping
mod Tabling
mod Winding
