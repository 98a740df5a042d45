mod Bodies
mod Few
mod Kept
mod Rests
mod Soon
mod Steps
