-- A run under a shipped protocol is sound to its end.
use Rattle.std.proofs.Common.{List, arith}
use Rattle.tw_base.specs.declared.entry.Entry.{Entry}
use Rattle.tw_base.specs.declared.entry.Event.TheVariants as event
use Rattle.dsm_runs.specs.Flat.{flat_start}
use Rattle.dsm_runs.specs.Setups.{IsSetup, Setup}
use Rattle.dsm_runs.specs.Worlds.{IsQuiet, Runs, World, start}
use Rattle.dsm_runs.proofs.Bounds.{runs_bounded, sum_zero}
use Rattle.coherence_frame.specs.Ends.{IsDone, Unspent}
use Rattle.coherence_frame.specs.Parts.{IsTreeOf}
use Rattle.coherence_frame.proofs.Counted.{runs_are_counted}
use Rattle.coherence_frame.proofs.Done.{no_budget_is_spent, quiet_runs_are_done}
use Rattle.coherence_frame.proofs.Keeping.{runs_are_explained, starts_kept}
use Rattle.coherence_frame.proofs.Scheme.{Scheme}
use Rattle.coherence_frame.proofs.Spent.{run_tally}
use Rattle.coherence_inv.proofs.Scheme.{scheme as of_stache}
use Rattle.stache_d_inv.proofs.Scheme.{scheme as of_stache_d}
use Rattle.stache_l_inv.proofs.Scheme.{scheme as of_stache_l}
use Rattle.sound_runs.specs.Shipped.{as_stache, as_stache_d, as_stache_l}
use Rattle.sound_runs.specs.Sound.{FewMessages, IsSoundToItsEnd, NoneFails, ShippedAreSoundToTheirEnd}
use Rattle.sound_runs.proofs.Completed.{refused_accesses_are_completed}
use Rattle.sound_runs.proofs.Fine.{handlers_fine, unfailed}
use Rattle.sound_runs.proofs.Outcomes.{ends_soundly}

none_fails :
    (p : Scheme) (s : Setup) (j : List Entry) (g : World) → IsSetup s → IsTreeOf p.wording s.protocol → Runs s (start s) j g →
    NoneFails s j g
none_fails p s j g is tree r =
    let end = runs_are_explained p s j g is tree r in
    record {
      nodes = λ i l. unfailed p s g end.flat i is end.kept l;
      handlers = handlers_fine p s (start s) j g (flat_start s) is (starts_kept p s is tree) r;
    }

few_messages :
    (p : Scheme) (s : Setup) (j : List Entry) (g : World) → IsSetup s → IsTreeOf p.wording s.protocol → Runs s (start s) j g →
    FewMessages s j g
few_messages p s j g is tree r =
    let counted = runs_are_counted p s j g is tree r in
    let tally = run_tally s (start s) j g r in
    record {
      handled = omega (arith, counted.handlers);
      sent = omega (arith, counted.sends);
      handled_counts = omega (arith, tally.handled, sum_zero s.shape.nodes);
      sent_counts = omega (arith, tally.sent, sum_zero s.shape.nodes);
      budgets = no_budget_is_spent p s j g is tree r;
    }

ends_well :
    (p : Scheme) (s : Setup) (j : List Entry) (g : World) → IsSetup s → IsTreeOf p.wording s.protocol → Runs s (start s) j g →
    IsQuiet s g → IsSoundToItsEnd s j g
ends_well p s j g is tree r quiet =
    let fine = none_fails p s j g is tree r in
    let unspent : Unspent s g = no_budget_is_spent p s j g is tree r in
    let done : IsDone s g = quiet_runs_are_done p s j g is tree r quiet in
    record {
      none_fails = fine;
      few_messages = few_messages p s j g is tree r;
      done = done;
      outcomes = λ i l. ends_soundly s (g.locals i) (fine.nodes i l) (unspent.handled i l) (unspent.sent i l) (unspent.clock i)
          ((runs_bounded s j g r).0.instructions i) (λ b. done.modes i b l) (λ may. quiet (event.Instr i) (l, may));
      completed = refused_accesses_are_completed p s j g is tree r;
    }

pub shipped_are_sound_to_their_end : ShippedAreSoundToTheirEnd
shipped_are_sound_to_their_end s j g is (as_stache tree) r quiet = ends_well of_stache s j g is tree r quiet
shipped_are_sound_to_their_end s j g is (as_stache_d tree) r quiet = ends_well of_stache_d s j g is tree r quiet
shipped_are_sound_to_their_end s j g is (as_stache_l tree) r quiet = ends_well of_stache_l s j g is tree r quiet
