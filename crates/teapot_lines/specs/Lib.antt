pub mod Cuts
pub mod Exprs
pub mod Lines
pub mod Parts
pub mod Reading
pub mod Seen
pub mod Spelling
