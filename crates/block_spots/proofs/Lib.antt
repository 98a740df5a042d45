pub mod Frame
pub mod Noted
pub mod Sums
