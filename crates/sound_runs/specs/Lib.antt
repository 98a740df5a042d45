pub mod Stamps
pub mod Sound
pub mod Shipped
