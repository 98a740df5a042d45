pub mod Tables
pub mod Whose
