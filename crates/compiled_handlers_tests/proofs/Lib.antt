mod Chaining
mod Parting
mod Standing
mod Unwritten
