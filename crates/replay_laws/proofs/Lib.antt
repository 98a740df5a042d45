mod OneReplay
mod Plain
mod Reading
mod Replayed
