pub mod Lexing
pub mod Named
pub mod Reading
pub mod Reports
pub mod Runs
