pub mod Doors
pub mod Literal
pub mod Given
pub mod Accepted
