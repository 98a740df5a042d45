pub mod Processors
pub mod Payloads
mod Nodes
mod Flat
pub mod Whole
pub mod Reports
