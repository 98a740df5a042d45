pub mod Tokens
pub mod Programs
