pub mod Deciding
pub mod Loops
pub mod Saying
pub mod Owing
pub mod Together
