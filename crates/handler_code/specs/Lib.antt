pub mod Doors
pub mod Live
pub mod Machine
pub mod Stacks
