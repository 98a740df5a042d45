pub mod Deeds
pub mod Faults
pub mod Firsts
pub mod Lists
pub mod Names
pub mod Stmts
pub mod Walks
