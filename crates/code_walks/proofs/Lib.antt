pub mod Depths
pub mod Leasts
pub mod TypeLemmas
pub mod Walking
