-- A node that is blocked waits for a block of the machine.
use Rattle.std.proofs.Common.{◌≡◌, ◌≢◌, ℕ, ◌<◌, Bool, arith, sym, ap, ◌∙◌, inl, inr, subst}
use Rattle.std.proofs.lemmas.Bool.{cases_eq}
use Rattle.dsm_runs.specs.Events.{mode_after}
use Rattle.dsm_runs.specs.declared.mode.Mode.{Mode}
use Rattle.block_spots.specs.Sketches.{DDeliver, DFault, DRedeliver, DStay, DWrite, Deed, IsPlain, Layout, OnlyAt, Sketch, Step}
use Rattle.coherence_frame.proofs.Quiet.{BlockedWithin}
use Rattle.coherence_frame.proofs.Rows.{Plan}
use Rattle.dsm_runs.specs.declared.mode.Mode.TheVariants as mode

-- a handler blocks nobody
still_blocked : (w : Bool) (c b : ℕ) (m : Mode) → mode_after w c m ≡ mode.Blocked b → m ≡ mode.Blocked b
still_blocked w c b m e = grind arith

plain_free : (b : ℕ) (m : Mode) → IsPlain m → m ≢ mode.Blocked b
plain_free b m p e = absurd (rw e at p)

same_block : (b c : ℕ) → mode.Blocked c ≡ mode.Blocked b → c ≡ b
same_block b c e = cc

at_one : (s : Layout) (g g2 : Sketch) (i : ℕ) → OnlyAt i g g2 → BlockedWithin s g →
    ((b : ℕ) → (g2.locals i).mode ≡ mode.Blocked b → b < s.blocks) → BlockedWithin s g2
at_one s g g2 i others w here j b l e =
    elim (cases_eq j i) [
      | inl q ↦ here b (ap (λ z. (g2.locals z).mode) (sym q) ∙ e)
      | inr d ↦ w j b l
          (sym (ap (λ z. z.mode) (others j d)) ∙ e)
    ]

module _ (plan : Plan) where
  pub blocked_stays : (s : Layout) (g : Sketch) (d : Deed) (g2 : Sketch) → Step plan.table s g d g2 → BlockedWithin s g →
      BlockedWithin s g2
  blocked_stays s g (DDeliver i f c) g2 r w = at_one s g g2 i r.others w
      (λ b e. w i b r.at_node (still_blocked r.handles.effect.woke r.message.block b (g.locals i).mode
      (sym r.handles.mode ∙ e)))
  blocked_stays s g (DRedeliver i) g2 r w = at_one s g g2 i r.others w
      (λ b e. w i b r.at_node (still_blocked r.handles.effect.woke r.message.block b (g.locals i).mode
      (sym r.handles.mode ∙ e)))
  blocked_stays s g (DFault i store c) g2 r w = at_one s g g2 i r.others w
      (λ b e. subst (λ (x : ℕ). x < s.blocks) (same_block b c
      (still_blocked r.handles.effect.woke c b (mode.Blocked c) (sym r.handles.mode ∙ e))) r.in_shape)
  blocked_stays s g (DStay i) g2 r w = at_one s g g2 i r.completes.others w
      (λ b e. absurd (plain_free b (g2.locals i).mode r.completes.mode e))
  blocked_stays s g (DWrite i c ws) g2 r w = at_one s g g2 i r.completes.others w
      (λ b e. absurd (plain_free b (g2.locals i).mode r.completes.mode e))
