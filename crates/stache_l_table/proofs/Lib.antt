pub mod Lasts
pub mod Rows
pub mod Nodes
pub mod Table
pub mod Bares
pub mod Shipped
pub mod Told
