mod Breaking
pub mod Following
mod Prints
mod Seeking
pub mod Standing
mod Telling
pub mod Told
pub mod Uncounted
mod Walking
