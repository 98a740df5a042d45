pub mod Bares
pub mod Firsts
pub mod Iso
pub mod Sharing
pub mod Spelled
