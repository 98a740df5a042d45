pub mod Away
pub mod Collecting
pub mod Elsewhere
pub mod Members
pub mod Sets
pub mod Sorts
