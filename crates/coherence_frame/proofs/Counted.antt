-- A run pays for itself, event by event.
use Rattle.std.proofs.Common.{◌≡◌, ℕ, ◌+◌, ◌-◌, ◌*◌, ◌≤◌, List, [], ◌∷◌, arith, ap, ◌∙◌}
use Rattle.tw_base.specs.Lists.{how_many}
use Rattle.tw_base.specs.declared.entry.Entry.{Entry}
use Rattle.mini_asm.specs.Run.{Machine}
use Rattle.dsm_runs.specs.Flat.{flat_start}
use Rattle.dsm_runs.specs.Setups.{IsSetup, Setup}
use Rattle.dsm_runs.specs.Worlds.{Runs, World, start}
use Rattle.block_spots.specs.Notes.{Note, notes, kept_notes}
use Rattle.block_spots.proofs.Sums.{sum_below_same}
use Rattle.block_spots.specs.Views.{layout}
use Rattle.coherence_frame.proofs.Loads.{sum_below_const}
use Rattle.coherence_frame.proofs.Views.{notes_nil, kept_notes_nil}
use Rattle.coherence_frame.proofs.Weights.{as_total, weight_of}
use Rattle.coherence_frame.specs.Laws.{IsKept}
use Rattle.coherence_frame.specs.Potential.{RunsAreCounted, faults_in, handled_in, is_fault_event, is_handler_event, potential}
use Rattle.coherence_frame.specs.Potential.{potential_of, sent_in, to_send, to_send_of}
use Rattle.coherence_frame.specs.Weights.{price, rest_weight, weigh}
use Rattle.coherence_frame.specs.Parts.{home_seen, seen}
use Rattle.coherence_frame.proofs.Keeping.{events_keep, starts_kept}
use Rattle.coherence_frame.proofs.Seen.{events_pay}
use Rattle.coherence_frame.proofs.Scheme.{Scheme}
use Rattle.teapot_meaning.specs.declared.state.StateVal as X

-- ---- the arithmetic of one event and the rest of a run

times_more : (a x y : ℕ) → a * (x + y) ≡ a * x + a * y
times_more a x y = grind arith

joins : (a k0 k p q r f0 f : ℕ) → k0 + q ≤ p + a * f0 → k + r ≤ q + a * f → k0 + k + r ≤ p + a * (f0 + f)
joins a k0 k p q r f0 f u v = omega (arith, times_more a f0 f)

module _ (scheme : Scheme) where
  -- ---- at the start nothing is to be done

  module _ (s : Setup) where
    no_weight : (f : Note → ℕ) (b : ℕ) → weight_of f (layout s) (seen scheme.wording s (start s)) b ≡ 0
    no_weight f b = as_total f (layout s) (seen scheme.wording s (start s)) b
        ∙ sum_below_same s.shape.nodes _ (λ j. 0) (λ j l. one j) ∙ sum_below_const s.shape.nodes 0
      where
        one : (j : ℕ) → how_many f (notes b []) + how_many f (kept_notes b j []) + how_many f (notes b []) + how_many f
            (notes b []) ≡ 0
        one j = omega (arith, ap (how_many f) (notes_nil b), ap (how_many f) (kept_notes_nil b j))

    no_rest : (v b : ℕ) → rest_weight v (home_seen scheme.wording s (start s) b).rest ≡ 0
    unfolding X.out-StateVal denote.Hole.Carrier.out X.roll-StateVal denote.Hole.Carrier.roll
    no_rest v b = ap (rest_weight v) scheme.shows.reads_none

    nothing_to_do : potential scheme.wording s (start s) ≡ 0
    nothing_to_do = sum_below_same s.shape.blocks (potential_of scheme.wording s (start s)) (λ b. 0) (λ b l. one b)
        ∙ sum_below_const s.shape.blocks 0
      where
        one : (b : ℕ) → potential_of scheme.wording s (start s) b ≡ 0
        one b = omega (arith, no_weight (weigh s.shape.nodes) b, no_rest s.shape.nodes b)

    nothing_to_send : to_send scheme.wording s (start s) ≡ 0
    nothing_to_send = sum_below_same s.shape.blocks (to_send_of scheme.wording s (start s)) (λ b. 0) (λ b l. one b)
        ∙ sum_below_const s.shape.blocks 0
      where
        one : (b : ℕ) → to_send_of scheme.wording s (start s) b ≡ 0
        one b = omega (arith, no_weight (price s.shape.nodes) b, no_rest 1 b)

  -- ---- runs

  -- what a piece of a run costs
  pub record CostsOf (s : Setup) (g : World) (j : List Entry) (h : World) : Type 0 where
    pub handlers : handled_in j + potential scheme.wording s h ≤ potential scheme.wording s g + (3 * s.shape.nodes - 1)
        * faults_in j
    pub sends : sent_in j + to_send scheme.wording s h ≤ to_send scheme.wording s g + 2 * s.shape.nodes * faults_in j

  pub run_costs : (s : Setup) (g : World) (j : List Entry) (h : World) (m : Machine) → IsSetup s →
      IsKept scheme.wording s g m → Runs s g j h → CostsOf s g j h
  run_costs s g [] h m is k r = record {
    handlers = let e : potential scheme.wording s g ≡ potential scheme.wording s h =
        ap (potential scheme.wording s) r in omega (arith, e);
    sends = let e : to_send scheme.wording s g ≡ to_send scheme.wording s h = ap (to_send scheme.wording s) r in omega (arith, e);
  }
  run_costs s g (e ∷ j) h m is k r =
      let first = events_pay scheme s g e r.0 m is k r.1 in
      let on = events_keep scheme s g e r.0 m is k r.1 in
      let rest = run_costs s r.0 j h on.goes.next is on.kept r.2 in
      record {
        handlers = joins (3 * s.shape.nodes - 1) (is_handler_event e.act) (handled_in j) (potential scheme.wording s g)
            (potential scheme.wording s r.0) (potential scheme.wording s h) (is_fault_event e.act)
            (faults_in j) first.handlers rest.handlers;
        sends = joins (2 * s.shape.nodes) e.sends (sent_in j) (to_send scheme.wording s g) (to_send scheme.wording s r.0)
            (to_send scheme.wording s h) (is_fault_event e.act) (faults_in j) first.sends rest.sends;
      }

  pub runs_are_counted : RunsAreCounted scheme.wording
  runs_are_counted s j g is tree r =
      let c = run_costs s (start s) j g (flat_start s) is (starts_kept scheme s is tree) r in
      record { handlers = omega (arith, c.handlers, nothing_to_do s); sends = omega (arith, c.sends, nothing_to_send s) }
