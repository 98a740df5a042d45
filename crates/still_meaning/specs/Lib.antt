pub mod Stills
pub mod Gathers
pub mod Reading
pub mod Laws
