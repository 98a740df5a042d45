-- What the nodes of a run have counted.
pub use Rattle.coherence_frame.proofs.Spent.{run_tally}
