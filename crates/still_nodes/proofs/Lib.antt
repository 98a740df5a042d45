pub mod Handed
mod Lists
mod Fronts
mod Parts
mod Moving
mod Refilling
mod Written
mod Spreading
mod Starting
pub mod Choosing
mod Wording
mod Acting
mod Places
mod Composed
mod Driven
mod Followed
mod Decided
mod Quiet
mod Collected
pub mod Cutting
pub mod Opened
