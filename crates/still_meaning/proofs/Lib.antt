pub mod Going
pub mod Passing
pub mod Making
pub mod Made
pub mod Enabling
pub mod Handing
pub mod Choosing
pub mod Reading
