pub mod Back
pub mod Text
pub mod Printing
