pub mod Answers
pub mod Sharing
pub mod Ends
pub mod Seating
pub mod Trying
pub mod Turning
