pub mod Ops
pub mod Standing
pub mod Looking
pub mod Finishing
