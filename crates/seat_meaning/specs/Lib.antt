pub mod Seats
pub mod Opened
