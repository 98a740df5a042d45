-- A step of the model is a step of the sketch that counts the same, and so it pays for itself.
use Rattle.std.proofs.Common.{ℕ, ◌+◌, ◌-◌, ◌*◌, ◌≤◌, subst}
use Rattle.tw_base.specs.declared.entry.Entry.{Entry}
use Rattle.mini_asm.specs.Run.{Machine}
use Rattle.dsm_runs.proofs.RunStates.{step_keeps}
use Rattle.dsm_runs.specs.Setups.{IsSetup, Setup}
use Rattle.dsm_runs.specs.Worlds.{Step as Stepping, World}
use Rattle.block_spots.specs.Views.{layout}
use Rattle.block_tags.specs.Copies.{block_slice}
use Rattle.coherence_frame.proofs.Charges.{step_costs}
use Rattle.coherence_frame.proofs.Deeds.{faults_of, handlers_of, sends_of}
use Rattle.coherence_frame.proofs.Pays.{Costs}
use Rattle.coherence_frame.specs.Coherent.{Coherent}
use Rattle.coherence_frame.specs.Laws.{IsKept}
use Rattle.coherence_frame.specs.Potential.{EventsPay, is_fault_event, potential, to_send}
use Rattle.coherence_frame.specs.Parts.{seen}
use Rattle.coherence_frame.proofs.Bridge.{coherent_of}
use Rattle.coherence_frame.proofs.StepsSeen.{IsSeen, step_seen}
use Rattle.coherence_frame.proofs.Scheme.{Scheme, plan_of}

module _ (scheme : Scheme) where
  -- ---- the law over the model

  pub kept_coherent : (s : Setup) (g : World) (m : Machine) → IsSetup s → IsKept scheme.wording s g m →
      Coherent scheme.wording.standing (layout s) (block_slice s.shape.words m.words) (seen scheme.wording s g)
  kept_coherent s g m is k = coherent_of scheme s g (block_slice s.shape.words m.words) is k.state k.coherent k.tied.words

  -- what is seen model.wording of a step from a kept state
  pub step_shown : (s : Setup) (g : World) (e : Entry) (h : World) (m : Machine) → IsSetup s → IsKept scheme.wording s g m →
      Stepping s g e h → IsSeen scheme s m g e h
  step_shown s g e h m is k r = step_seen scheme s is g m k.state k.coherent (kept_coherent s g m is k) e h r
      (step_keeps s g e h is k.state r)

  pub events_pay : EventsPay scheme.wording
  events_pay s g e h m is k r =
      let x : IsSeen scheme s m g e h = step_shown s g e h m is k r in
      let c : Costs s.shape.nodes (handlers_of x.deed) (faults_of x.deed)
      (sends_of (plan_of scheme) (layout s) (seen scheme.wording s g) x.deed (seen scheme.wording s h) x.step)
      (potential scheme.wording s g) (potential scheme.wording s h) (to_send scheme.wording s g)
      (to_send scheme.wording s h) = step_costs (plan_of scheme) (layout s) (block_slice s.shape.words m.words)
      (seen scheme.wording s g) x.deed (seen scheme.wording s h) x.step (kept_coherent s g m is k) in
      record {
        handlers =
            subst (λ (y : ℕ). y + potential scheme.wording s h ≤ potential scheme.wording s g + (3 * s.shape.nodes - 1)
            * is_fault_event e.act) x.counts.handlers (subst
            (λ (y : ℕ). handlers_of x.deed + potential scheme.wording s h ≤ potential scheme.wording s g
            + (3 * s.shape.nodes - 1) * y) x.counts.faults c.handlers);
        sends = subst (λ (y : ℕ). y + to_send scheme.wording s h ≤ to_send scheme.wording s g + 2 * s.shape.nodes
            * is_fault_event e.act) x.counts.sends
            (subst (λ (y : ℕ). sends_of (plan_of scheme) (layout s) (seen scheme.wording s g) x.deed
            (seen scheme.wording s h) x.step + to_send scheme.wording s h ≤ to_send scheme.wording s g + 2 * s.shape.nodes * y)
            x.counts.faults c.sends);
      }
