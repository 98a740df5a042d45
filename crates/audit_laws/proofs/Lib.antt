mod Beside
mod Counting
mod Executed
mod Dues
mod Ends
pub mod Whole
