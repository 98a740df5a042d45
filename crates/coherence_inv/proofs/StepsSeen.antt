-- Blocks of addresses.
pub use Rattle.coherence_frame.proofs.StepsSeen.{block_within}
