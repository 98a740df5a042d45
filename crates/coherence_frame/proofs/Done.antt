-- A run that has come to rest has nothing in flight, nothing deferred and no node blocked.
use Rattle.std.proofs.Common.{◌≡◌, ℕ, ◌<◌, Bool, true, false, List, [], ◌∷◌, map, refl, ap, subst, inl, inr, ◌⊎◌}
use Rattle.tw_base.specs.Lists.{Each}
use Rattle.tw_base.specs.declared.entry.Entry.{Entry}
use Rattle.tw_base.specs.declared.message.Chan.{Chan}
use Rattle.tw_base.specs.declared.message.Message.{Message}
use Rattle.mini_asm.specs.Run.{Machine}
use Rattle.dsm_runs.specs.Flat.{flat_start}
use Rattle.dsm_runs.specs.Invariants.{IsDeferredAt}
use Rattle.dsm_runs.specs.Locals.{IsFirst, IsStale, MayHandle, last_stamp}
use Rattle.dsm_runs.specs.Setups.{IsSetup, Setup}
use Rattle.dsm_runs.specs.Worlds.{IsQuiet, Runs, World, start}
use Rattle.dsm_runs.specs.declared.mode.Waiting.{Waiting}
use Rattle.block_spots.specs.Views.{layout, seen_message, seen_waiting}
use Rattle.block_tags.specs.Copies.{block_slice}
use Rattle.coherence_frame.proofs.Blocked.{blocked_stays}
use Rattle.coherence_frame.proofs.Quiet.{BlockedWithin, IsStill, none_blocked, none_deferred}
use Rattle.coherence_frame.specs.Ends.{IsDone, NoBudgetIsSpent, QuietRunsAreDone, Unspent}
use Rattle.coherence_frame.specs.Laws.{IsKept}
use Rattle.coherence_frame.specs.Parts.{First, seen}
use Rattle.coherence_frame.proofs.Counted.{runs_are_counted}
use Rattle.coherence_frame.proofs.Keeping.{events_keep, starts_kept}
use Rattle.coherence_frame.proofs.Seen.{kept_coherent, step_shown}
use Rattle.coherence_frame.proofs.Spent.{unspent}
use Rattle.coherence_frame.proofs.Scheme.{Scheme, plan_of}
use Rattle.tw_base.specs.declared.entry.Event.TheVariants as event
use Rattle.dsm_runs.specs.declared.mode.Mode.TheVariants as mode

-- ---- lists

record Found (ws : List Waiting) : Type 0 where
  message : Message
  earlier : List Waiting
  later : List Waiting
  takes : IsFirst message earlier later ws

first_or_stale : (ws : List Waiting) → Each IsStale ws ⊎ Found ws
first_or_stale [] = inl tt
first_or_stale (w ∷ ws) = go w.eligible refl (first_or_stale ws)
  where
    go : (b : Bool) → w.eligible ≡ b → Each IsStale ws ⊎ Found ws → Each IsStale (w ∷ ws) ⊎ Found (w ∷ ws)
    go true e r =
        inr (record {
          message = w.message;
          earlier = [];
          later = ws;
          takes = record {
            found = ap (λ (t : Bool). let x : Waiting = record { message = w.message; eligible = t } in x ∷ ws) e;
            stale = tt;
          };
        })
    go false e (inl h) = inl (e, h)
    go false e (inr f) =
        inr (record {
          message = f.message;
          earlier = w ∷ f.earlier;
          later = f.later;
          takes = record { found = ap (λ (x : List Waiting). w ∷ x) f.takes.found; stale = (e, f.takes.stale) };
        })

stale_seen : (ws : List Waiting) → Each IsStale ws → Each (λ w. w.eligible ≡ false) (map seen_waiting ws)
stale_seen [] h = tt
stale_seen (w ∷ ws) h = (h.0, stale_seen ws h.1)

within_seen : (s : Setup) (i : ℕ) (ws : List Waiting) → Each (λ w. IsDeferredAt s i w.message) ws →
    Each (λ w. w.message.block < s.shape.blocks) (map seen_waiting ws)
within_seen s i [] h = tt
within_seen s i (w ∷ ws) h = (h.0.block, within_seen s i ws h.1)

none_seen : (ws : List Waiting) → map seen_waiting ws ≡ [] → ws ≡ []
none_seen [] e = refl
none_seen (w ∷ ws) e = absurd cc

module _ (scheme : Scheme) where
  -- ---- a state in which no event may happen

  module _ (s : Setup) (g : World) (m : Machine) (is : IsSetup s) (k : IsKept scheme.wording s g m) (u : Unspent s g)
      (quiet : IsQuiet s g) where
    may_handle : (i : ℕ) → i < s.shape.nodes → MayHandle s (g.locals i)
    may_handle i l = record {
      unfailed = (k.coherent 0 is.limits.some_block First).unfailed i l;
      free = λ held. quiet (event.Instr i) (l, held.may);
      handled = u.handled i l;
      sent = u.sent i l;
      clock = u.clock i;
    }

    none_eligible : (i : ℕ) → i < s.shape.nodes → Each IsStale (g.locals i).deferred
    none_eligible i l = go (first_or_stale (g.locals i).deferred)
      where
        go : Each IsStale (g.locals i).deferred ⊎ Found (g.locals i).deferred → Each IsStale (g.locals i).deferred
        go (inl h) = h
        go (inr f) =
            absurd (quiet (event.Redeliver i) (
              l,
              record {
                may = may_handle i l;
                message = f.message;
                earlier = f.earlier;
                later = f.later;
                takes = f.takes;
              },
            ))

    none_in_flight : (f t : ℕ) (c : Chan) → f < s.shape.nodes → t < s.shape.nodes → g.wires f t c ≡ []
    none_in_flight f t c lf lt = go (g.wires f t c) refl
      where
        go : (ms : List Message) → g.wires f t c ≡ ms → g.wires f t c ≡ []
        go [] e = e
        go (x ∷ ms) e =
            let early : Each (λ m. m.stamp < last_stamp) (x ∷ ms) =
            subst (λ (ys : List Message). Each (λ m. m.stamp < last_stamp) ys) e (u.stamps f t c) in
            absurd (quiet (event.Deliver t f c) (
              lt,
              lf,
              record {
                may = may_handle t lt;
                none_eligible = none_eligible t lt;
                message = x;
                rest = ms;
                front = e;
                early = early.0;
              },
            ))

    still : IsStill (layout s) (seen scheme.wording s g)
    still = record {
      wires = λ f t c lf lt. ap (map seen_message) (none_in_flight f t c lf lt);
      stale = λ i l. stale_seen (g.locals i).deferred (none_eligible i l);
      within = λ i l. within_seen s i (g.locals i).deferred (k.state.nodes i).deferred;
    }

    pub quiet_is_done : BlockedWithin (layout s) (seen scheme.wording s g) → IsDone s g
    quiet_is_done w = record {
      wires = none_in_flight;
      deferred =
          λ i l. none_seen (g.locals i).deferred (none_deferred (plan_of scheme) (layout s) (block_slice s.shape.words m.words)
          (seen scheme.wording s g) (kept_coherent scheme s g m is k) still i l);
      modes = λ i b l e. none_blocked (plan_of scheme) (layout s) (block_slice s.shape.words m.words) (seen scheme.wording s g)
          (kept_coherent scheme s g m is k) still w i b l e;
    }

  -- ---- runs

  record Ends (s : Setup) (h : World) : Type 0 where
    machine : Machine
    kept : IsKept scheme.wording s h machine
    blocked : BlockedWithin (layout s) (seen scheme.wording s h)

  run_ends : (s : Setup) (g : World) (j : List Entry) (h : World) (m : Machine) → IsSetup s → IsKept scheme.wording s g m →
      BlockedWithin (layout s) (seen scheme.wording s g) → Runs s g j h → Ends s h
  run_ends s g [] h m is k w r = subst (λ (x : World). Ends s x) r (record { machine = m; kept = k; blocked = w })
  run_ends s g (e ∷ j) h m is k w r =
      let x = step_shown scheme s g e r.0 m is k r.1 in
      let on = events_keep scheme s g e r.0 m is k r.1 in
      run_ends s r.0 j h on.goes.next is on.kept (blocked_stays (plan_of scheme) (layout s) (seen scheme.wording s g) x.deed
      (seen scheme.wording s r.0) x.step w) r.2

  start_blocked : (s : Setup) → BlockedWithin (layout s) (seen scheme.wording s (start s))
  start_blocked s i b l e = absurd (let z : mode.Running ≡ mode.Blocked b = e in cc)

  pub no_budget_is_spent : NoBudgetIsSpent scheme.wording
  no_budget_is_spent s j g is tree r = unspent scheme s j g is (runs_are_counted scheme s j g is tree r) r

  pub quiet_runs_are_done : QuietRunsAreDone scheme.wording
  quiet_runs_are_done s j g is tree r quiet =
      let end = run_ends s (start s) j g (flat_start s) is (starts_kept scheme s is tree) (start_blocked s) r in
      quiet_is_done s g end.machine is end.kept (no_budget_is_spent s j g is tree r) quiet end.blocked
