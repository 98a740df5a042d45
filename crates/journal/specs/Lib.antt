pub mod Finals
pub mod Gathered
pub mod History
pub mod Laws
pub mod Merging
pub mod Reports
pub mod Standing
pub mod Unbroken
