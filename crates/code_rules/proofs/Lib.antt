pub mod Belows
pub mod Depthly
pub mod Doorways
pub mod FaultLemmas
pub mod LoopLemmas
pub mod RestLemmas
pub mod RuleLemmas
pub mod Safely
