pub mod Lexed
pub mod Behind
pub mod Texts
mod Errors
pub mod Plain
pub mod Whole
mod Fitting
pub mod Naming
pub mod Saying
pub mod Laid
mod Failing
pub mod Entries
