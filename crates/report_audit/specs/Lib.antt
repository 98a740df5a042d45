pub mod Audits
pub mod Executing
pub mod Lines
pub mod Nodes
pub mod Texts
