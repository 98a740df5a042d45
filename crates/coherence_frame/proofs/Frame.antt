-- An event on one block leaves what coherence says of another.
use Rattle.std.proofs.Common.{◌≢◌, ℕ, Bool}
use Rattle.block_spots.specs.Sketches.{Sketch, Delivers, Redelivers, Faults, Layout}
pub use Rattle.block_spots.proofs.Frame.{SameBlock, same_spot}
use Rattle.tw_base.specs.declared.message.Chan.{Chan}
use Rattle.coherence_frame.proofs.Rows.{Plan}
use Rattle.block_spots.proofs.Frame as any

module _ (plan : Plan) where
  pub delivers_frame : (s : Layout) (g : Sketch) (i f : ℕ) (c : Chan) (g2 : Sketch) (e : Delivers plan.table s g i f c g2)
      (b : ℕ) → e.message.block ≢ b → SameBlock g g2 b
  delivers_frame = any.delivers_frame plan.table plan.sends.of_block

  pub faults_frame : (s : Layout) (g : Sketch) (i : ℕ) (store : Bool) (c : ℕ) (g2 : Sketch)
      (e : Faults plan.table s g i store c g2) (b : ℕ) → c ≢ b → SameBlock g g2 b
  faults_frame = any.faults_frame plan.table plan.sends.of_block

  pub redelivers_frame : (s : Layout) (g : Sketch) (i : ℕ) (g2 : Sketch) (e : Redelivers plan.table s g i g2) (b : ℕ) →
      e.message.block ≢ b → SameBlock g g2 b
  redelivers_frame = any.redelivers_frame plan.table plan.sends.of_block
