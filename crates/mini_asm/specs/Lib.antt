pub mod Assembled
pub mod Laws
pub mod Machine
pub mod Programs
pub mod Run
pub mod Spelling
