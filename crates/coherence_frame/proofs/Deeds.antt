-- What is counted of a step of the sketch.
use Rattle.std.proofs.Common.{ℕ, length}
use Rattle.block_spots.specs.Sketches.{DDeliver, DFault, DRedeliver, DStay, DWrite, Deed, Layout, Sketch, Step}
use Rattle.coherence_frame.proofs.Rows.{Plan}

abbrev pub handlers_of : Deed → ℕ
handlers_of (DDeliver i f c) = 1
handlers_of (DRedeliver i) = 1
handlers_of (DFault i store b) = 0
handlers_of (DStay i) = 0
handlers_of (DWrite i b ws) = 0

abbrev pub faults_of : Deed → ℕ
faults_of (DDeliver i f c) = 0
faults_of (DRedeliver i) = 0
faults_of (DFault i store b) = 1
faults_of (DStay i) = 0
faults_of (DWrite i b ws) = 0

module _ (plan : Plan) where
  -- how many messages a step sends
  abbrev pub sends_of : (s : Layout) (g : Sketch) (d : Deed) (g2 : Sketch) → Step plan.table s g d g2 → ℕ
  sends_of s g (DDeliver i f c) g2 r = length r.handles.effect.sends
  sends_of s g (DRedeliver i) g2 r = length r.handles.effect.sends
  sends_of s g (DFault i store b) g2 r = length r.handles.effect.sends
  sends_of s g (DStay i) g2 r = 0
  sends_of s g (DWrite i b ws) g2 r = 0
