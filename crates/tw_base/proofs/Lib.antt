pub mod Answering
mod SetBits
