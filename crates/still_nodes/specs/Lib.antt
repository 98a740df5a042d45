pub mod Beginning
pub mod Handing
pub mod Parts
pub mod Telling
pub mod Making
pub mod Driving
pub mod Opening
