pub mod Carries
pub mod Places
pub mod Sides
pub mod Wires
pub mod Made
pub mod Joined
pub mod Lending
