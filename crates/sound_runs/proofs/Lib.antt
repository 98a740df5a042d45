pub mod Stamps
pub mod Fine
pub mod Outcomes
pub mod Completed
pub mod Sound
