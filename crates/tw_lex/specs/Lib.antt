pub mod Bytes
pub mod Laws
pub mod Lexemes
pub mod Lines
