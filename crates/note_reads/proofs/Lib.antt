pub mod Deferring
pub mod Lists
