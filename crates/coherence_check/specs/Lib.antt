pub mod Under
pub mod Nodes
pub mod Said
pub mod Waits
pub mod Owing
pub mod Breaches
