mod Constants
mod Messages
mod Running
mod Within
