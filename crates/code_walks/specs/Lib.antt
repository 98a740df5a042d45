pub mod Jumps
pub mod Kinds
pub mod Least
pub mod Parts
pub mod Stacks
