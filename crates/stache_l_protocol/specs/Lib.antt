pub mod Laws
pub mod Shipped
