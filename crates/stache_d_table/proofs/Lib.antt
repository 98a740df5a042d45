pub mod Rows
pub mod Table
pub mod Bares
pub mod Shipped
pub mod Told
