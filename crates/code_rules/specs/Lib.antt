pub mod Faults
pub mod Rules
pub mod Safety
pub mod Serving
pub mod Sets
pub mod Structure
pub mod Tests
