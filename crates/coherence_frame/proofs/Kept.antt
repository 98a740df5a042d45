-- Every step of the sketch keeps coherence, and what a tag lets a node read is current.
use Rattle.std.proofs.Common.{◌≡◌, ◌≢◌, ℕ, ◌<◌, List, arith, refl, inl, inr, nat_eq, if◌then◌else◌}
use Rattle.std.proofs.lemmas.Bool.{cases_eq}
use Rattle.std.proofs.lemmas.Bool.Decides.{nat_tests}
use Rattle.block_spots.specs.Cases.{Here}
use Rattle.block_spots.specs.Notes.{Spot}
use Rattle.block_spots.specs.Sketches.{Deed, DDeliver, DRedeliver, DFault, DStay, DWrite, Layout, Sketch, Step, home_at, spot_at}
use Rattle.coherence_frame.specs.Coherent.{AtHome, Coherent}
use Rattle.coherence_frame.specs.Words.{allows_load, current_in}
use Rattle.coherence_frame.proofs.Deliveries.{deliver_keeps}
use Rattle.coherence_frame.proofs.Redeliveries.{redeliver_keeps}
use Rattle.coherence_frame.proofs.Instructions.{stays_keeps, store_keeps, fault_keeps}
use Rattle.coherence_frame.proofs.Rows.{Plan}

abbrev pub flat_after : Deed → (ℕ → List ℕ) → ℕ → List ℕ
flat_after (DWrite i b ws) flat x = if nat_eq x b then ws else flat x
flat_after (DDeliver i f c) flat x = flat x
flat_after (DRedeliver i) flat x = flat x
flat_after (DFault i store b) flat x = flat x
flat_after (DStay i) flat x = flat x

pub written : (i b : ℕ) (ws : List ℕ) (flat : ℕ → List ℕ) → flat_after (DWrite i b ws) flat b ≡ ws
written i b ws flat = grind (arith, nat_tests)

pub unwritten : (i b : ℕ) (ws : List ℕ) (flat : ℕ → List ℕ) (x : ℕ) → x ≢ b → flat_after (DWrite i b ws) flat x ≡ flat x
unwritten i b ws flat x d = grind (arith, nat_tests)

module _ (plan : Plan) where
  pub step_keeps : (s : Layout) (flat : ℕ → List ℕ) (g : Sketch) (d : Deed) (g2 : Sketch) → Step plan.table s g d g2 →
      Coherent plan.words s flat g → Coherent plan.words s (flat_after d flat) g2
  step_keeps s flat g (DDeliver i f c) g2 r k = deliver_keeps plan s flat g i f c g2 r k
  step_keeps s flat g (DRedeliver i) g2 r k = redeliver_keeps plan s flat g i g2 r k
  step_keeps s flat g (DFault i store b) g2 r k = fault_keeps plan s flat g i store b g2 r k
  step_keeps s flat g (DStay i) g2 r k = stays_keeps plan s flat g i g2 r.completes k r.blocks
  step_keeps s flat g (DWrite i b ws) g2 r k = store_keeps plan s flat g i g2 r.completes k b r.in_shape ws r.allowed r.here
      r.blocks _ (written i b ws flat) (unwritten i b ws flat)

  read_at_home : (n h : ℕ) (home : Here) (sp owner : Spot) (cur : List ℕ) → AtHome plan.words n h home sp →
      allows_load home.tag → current_in home.state home.words owner ≡ cur → home.words ≡ cur
  read_at_home n h home sp owner cur a t c = grind arith

  pub read_is_current : (s : Layout) (flat : ℕ → List ℕ) (g : Sketch) (i b : ℕ) → i < s.nodes → b < s.blocks →
      Coherent plan.words s flat g → allows_load ((g.locals i).blocks b).tag → ((g.locals i).blocks b).words ≡ flat b
  unfolding spot_at
  read_is_current s flat g i b l lb k t = elim (cases_eq i (s.home b)) [
    | inl q ↦ rw q (read_at_home s.nodes (s.home b) _ _ _ (flat b) (k.block b lb).at_home (rw q at t) (k.block b lb).tie)
    | inr d ↦ plan.says.read_at_cache s.nodes (s.home b) _ i (spot_at g b (s.home b) i)
        (spot_at g b (s.home b) (home_at g b (s.home b)).owner) (flat b) ((k.block b lb).caches i l d) t (λ q. rw q refl)
        (k.block b lb).tie
  ]
