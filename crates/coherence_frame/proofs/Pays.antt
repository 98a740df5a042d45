-- Each step of the sketch pays for itself, at the block that it is about.
use Rattle.std.proofs.Common.{◌≡◌, ◌≢◌, ℕ, ◌+◌, ◌-◌, ◌*◌, ◌<◌, ◌≤◌, List, length, Some, arith, sym, ap, ◌∙◌, inl, inr, ◌⊎◌}
use Rattle.block_spots.specs.Cases.{RdFault, WrFault, GetRo, GetRw, Message}
use Rattle.block_spots.specs.Notes.{Note, note}
use Rattle.block_spots.specs.Sketches.{Handles, Layout, Local, OnlyAt, Sketch, Wires, home_at, spot_at}
use Rattle.coherence_frame.specs.Coherent.{AtHome, Coherent}
use Rattle.coherence_frame.specs.Words.{Elsewhere, IsCacheState}
use Rattle.coherence_frame.specs.Weights.{weigh, price, rest_weight}
use Rattle.coherence_frame.proofs.Totals.{cache_total, home_total}
use Rattle.coherence_frame.proofs.Loads.{kept_weight, outgoing, total}
use Rattle.coherence_frame.proofs.Stales.{stale_after, stale_handled, stale_in}
use Rattle.coherence_frame.proofs.Bounds.{stale_bound}
use Rattle.coherence_frame.proofs.Paying.{Paid}
use Rattle.coherence_frame.proofs.Weights.{as_total, cache_sends_home, left_of, stale_within, unsent_of, weight_of}
use Rattle.coherence_frame.proofs.Rows.{Plan}

-- what an event may cost: hk handler events and sn sends, fk faults
pub record Costs (n hk fk sn p p2 u u2 : ℕ) : Type 0 where
  pub handlers : hk + p2 ≤ p + (3 * n - 1) * fk
  pub sends : sn + u2 ≤ u + 2 * n * fk

-- ---- the arithmetic

times_one : (a : ℕ) → a * 1 ≡ a
times_one a = omega arith

times_zero : (a : ℕ) → a * 0 ≡ 0
times_zero a = omega arith

module _ (plan : Plan) where
  -- ---- the home handles a message, taken from its wires or its deferred ones

  module _ (s : Layout) (flat : ℕ → List ℕ) (g g2 : Sketch) (m : Message) (lb : m.block < s.blocks) (l : Local) (w : Wires)
      (k : Coherent plan.words s flat g)
      (o : Handles plan.table s.nodes (s.home m.block) (s.home m.block) m l w (g2.locals (s.home m.block)) g2.wires)
      (same : l.blocks m.block ≡ home_at g m.block (s.home m.block))
      (from : m.from < s.nodes) (not_own : (m.kind ≡ GetRo → m.from ≢ s.home m.block)
      × (m.kind ≡ GetRw → m.from ≢ s.home m.block))
      (stale : stale_in m.block (g.locals (s.home m.block)).deferred ≡ stale_in m.block l.deferred) where
    does : plan.table s.nodes (s.home m.block) (s.home m.block) (home_at g m.block (s.home m.block)) m ≡ Some o.effect
    does = let f : plan.table s.nodes (s.home m.block) (s.home m.block) (l.blocks m.block) m ≡ Some o.effect =
        o.does in rw same at f

    at : AtHome plan.words s.nodes (s.home m.block) (home_at g m.block (s.home m.block))
        (spot_at g m.block (s.home m.block) (s.home m.block))
    at = (k.block m.block lb).at_home

    -- the weights after it
    pub after : (f : Note → ℕ) → weight_of f s g2 m.block ≡ total f m.block
        (s.home m.block) s.nodes w l.deferred + outgoing f o.effect.sends + kept_weight o.effect.kept (f (note m))
    after f = as_total f s g2 m.block ∙ home_total plan f s.nodes (s.home m.block) m l w _ _ o from
        (plan.sends.home_on_one s.nodes (s.home m.block) _ _ m o.effect at does)
        (plan.sends.home_past s.nodes (s.home m.block) _ _ m o.effect at not_own.0 not_own.1 does)
        (plan.sends.home_below s.nodes (s.home m.block) _ _ m o.effect at from does)

    pub paid : Paid s.nodes (home_at g m.block (s.home m.block)) m o.effect
        (stale_in m.block (g.locals (s.home m.block)).deferred)
    paid = plan.home.paid_at_home s.nodes (s.home m.block) _ _ m o.effect _ (k.homes m.block) at does
        (stale_bound plan s.nodes (s.home m.block) m.block (flat m.block) g (k.homes m.block) (k.block m.block lb)
        (k.elsewhere m.block lb).strangers (k.settled m.block lb))

    pub rest_after : (v : ℕ) → rest_weight v (home_at g2 m.block (s.home m.block)).rest ≡ rest_weight v o.effect.here.rest
    rest_after v = ap (λ z. rest_weight v z.rest) o.here

    pub stale_then : stale_in m.block (g2.locals (s.home m.block)).deferred
        ≡ stale_after o.effect.freed o.effect.kept (stale_in m.block (g.locals (s.home m.block)).deferred)
    stale_then = ap (stale_in m.block) o.deferred ∙ stale_handled o.effect.freed o.effect.kept m l.deferred
        ∙ ap (stale_after o.effect.freed o.effect.kept) (sym stale)

    -- a message that was counted
    pub home_took : ((f : Note → ℕ) → weight_of f s g m.block
        ≡ total f m.block (s.home m.block) s.nodes w l.deferred + f (note m)) → Elsewhere s g2 m.block →
        Costs s.nodes 1 0 (length o.effect.sends) (left_of s g m.block) (left_of s g2 m.block) (unsent_of s g m.block)
        (unsent_of s g2 m.block)
    home_took before e2 = record {
      handlers = omega (
        arith,
        before (weigh s.nodes),
        after (weigh s.nodes),
        paid.handlers,
        rest_after s.nodes,
        stale_then,
        stale_within s g2 m.block (omega (arith, k.homes m.block)) e2,
        times_zero (3 * s.nodes - 1),
      );
      sends = omega (arith, before (price s.nodes), after (price s.nodes), paid.sends, rest_after 1, times_zero (2 * s.nodes));
    }

    -- a fault of its own, not counted before
    pub home_faulted : ((f : Note → ℕ) → weight_of f s g m.block ≡ total f m.block (s.home m.block) s.nodes w l.deferred) →
        (m.kind ≡ RdFault) ⊎ (m.kind ≡ WrFault) →
        Costs s.nodes 0 1 (length o.effect.sends) (left_of s g m.block) (left_of s g2 m.block) (unsent_of s g m.block)
        (unsent_of s g2 m.block)
    home_faulted before kd = record {
      handlers = omega (
        arith,
        before (weigh s.nodes),
        after (weigh s.nodes),
        paid.handlers,
        rest_after s.nodes,
        stale_then,
        heavy kd,
        times_one (3 * s.nodes - 1),
      );
      sends = omega (
        arith,
        before (price s.nodes),
        after (price s.nodes),
        paid.sends,
        rest_after 1,
        times_one (2 * s.nodes),
        dear kd,
      );
    }
      where
        heavy : (m.kind ≡ RdFault) ⊎ (m.kind ≡ WrFault) → weigh s.nodes (note m) ≡ 3 * s.nodes - 1
        heavy (inl q) = grind arith
        heavy (inr q) = grind arith

        dear : (m.kind ≡ RdFault) ⊎ (m.kind ≡ WrFault) → price s.nodes (note m) ≡ 2 * s.nodes - 1
        dear (inl q) = grind arith
        dear (inr q) = grind arith

  -- ---- a cache handles a message

  module _ (s : Layout) (flat : ℕ → List ℕ) (g g2 : Sketch) (i : ℕ) (m : Message) (lb : m.block < s.blocks) (li : i < s.nodes)
      (ih : i ≢ s.home m.block) (l : Local) (w : Wires) (k : Coherent plan.words s flat g)
      (o : Handles plan.table s.nodes (s.home m.block) i m l w (g2.locals i) g2.wires) (others : OnlyAt i g g2)
      (state : IsCacheState (l.blocks m.block).state) (to : m.kind ≢ RdFault → m.kind ≢ WrFault → m.from ≡ s.home m.block) where
    home_stays : g2.locals (s.home m.block) ≡ g.locals (s.home m.block)
    home_stays = others (s.home m.block) (λ q. ih (sym q))

    rest_stays : (v : ℕ) → rest_weight v (home_at g2 m.block (s.home m.block)).rest
        ≡ rest_weight v (home_at g m.block (s.home m.block)).rest
    rest_stays v = ap (λ z. rest_weight v (z.blocks m.block).rest) home_stays

    stale_stays : stale_in m.block (g2.locals (s.home m.block)).deferred ≡ stale_in m.block (g.locals (s.home m.block)).deferred
    stale_stays = ap (λ z. stale_in m.block z.deferred) home_stays

    cache_after : (f : Note → ℕ) → weight_of f s g2 m.block ≡ total f m.block (s.home m.block) s.nodes w
        (g.locals (s.home m.block)).deferred + outgoing f o.effect.sends
    cache_after f = as_total f s g2 m.block ∙ ap (λ z. total f m.block (s.home m.block) s.nodes g2.wires z.deferred) home_stays
        ∙ cache_total plan f s.nodes (s.home m.block) i (g.locals (s.home m.block)).deferred m l w _ _ o li ih
        (cache_sends_home plan s.nodes (s.home m.block) i _ m o.effect state to o.does)

    pub cache_took : ((f : Note → ℕ) → weight_of f s g m.block
        ≡ total f m.block (s.home m.block) s.nodes w (g.locals (s.home m.block)).deferred + f (note m)) →
        m.kind ≢ RdFault → m.kind ≢ WrFault → Elsewhere s g2 m.block →
        Costs s.nodes 1 0 (length o.effect.sends) (left_of s g m.block) (left_of s g2 m.block) (unsent_of s g m.block)
        (unsent_of s g2 m.block)
    cache_took before d1 d2 e2 = record {
      handlers = omega (
        arith,
        before (weigh s.nodes),
        cache_after (weigh s.nodes),
        pays.0,
        rest_stays s.nodes,
        stale_stays,
        stale_within s g2 m.block (omega (arith, k.homes m.block)) e2,
        times_zero (3 * s.nodes - 1),
      );
      sends = omega (arith, before (price s.nodes), cache_after (price s.nodes), pays.1, rest_stays 1, times_zero (2 * s.nodes));
    }
      where
        pays : (1 + outgoing (weigh s.nodes) o.effect.sends ≤ weigh s.nodes (note m))
            × (length o.effect.sends + outgoing (price s.nodes) o.effect.sends ≤ price s.nodes (note m))
        pays = plan.cache.paid_at_cache s.nodes (s.home m.block) i _ m o.effect state d1 d2 o.does

    pub cache_faulted : ((f : Note → ℕ) → weight_of f s g m.block
        ≡ total f m.block (s.home m.block) s.nodes w (g.locals (s.home m.block)).deferred) →
        (m.kind ≡ RdFault) ⊎ (m.kind ≡ WrFault) →
        Costs s.nodes 0 1 (length o.effect.sends) (left_of s g m.block) (left_of s g2 m.block) (unsent_of s g m.block)
        (unsent_of s g2 m.block)
    cache_faulted before kd = record {
      handlers = omega (
        arith,
        before (weigh s.nodes),
        cache_after (weigh s.nodes),
        pays.0,
        rest_stays s.nodes,
        stale_stays,
        times_one (3 * s.nodes - 1),
      );
      sends = omega (arith, before (price s.nodes), cache_after (price s.nodes), pays.1, rest_stays 1, times_one (2 * s.nodes));
    }
      where
        pays : (outgoing (weigh s.nodes) o.effect.sends ≤ 3 * s.nodes - 1)
            × (length o.effect.sends + outgoing (price s.nodes) o.effect.sends ≤ 2 * s.nodes)
        pays = plan.cache.fault_at_cache s.nodes (s.home m.block) i _ m o.effect (omega (arith, k.homes m.block)) state kd o.does
