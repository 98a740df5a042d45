-- Runs of all nodes go on.
use Rattle.std.proofs.Common.{◌≡◌, ◌∙◌, ℕ, suc, ◌+◌, List, [], ◌∷◌, ◌++◌, Some, length, refl, ap, sym, subst, arith}
use Rattle.std.proofs.Common.{append_assoc, append-nil}
use Rattle.tw_base.specs.declared.entry.Entry.{Entry}
use Rattle.dsm_runs.specs.Begun.{HasBegun}
use Rattle.dsm_runs.specs.Beside.{RunsBeside}
use Rattle.dsm_runs.specs.Schedules.{Settles, chosen, enabled_events}
use Rattle.dsm_runs.specs.Setups.{Setup}
use Rattle.dsm_runs.specs.Worlds.{Runs, Step, World, event_of}
use Rattle.dsm_runs.proofs.Besides.{run_goes_on_beside}
use Rattle.dsm_runs.proofs.GoingOn.{run_goes_on}
use Rattle.dsm_runs.proofs.Scheduling.{begun_more, begun_settles}
use Rattle.node_meaning.specs.Tallies.{Counts, Tally}
use Rattle.still_meaning.specs.Stills.{GoesThrough, IsStill, StillShown, tallies}

-- what stands beside a run of b stands beside it by the setup and the code of a
pub beside_of : (a b : StillShown) (g h : World) (xs ys : ℕ → Tally) (es : List Entry) → b.setup ≡ a.setup → b.code ≡ a.code →
    RunsBeside (Counts b.setup b.code) b.setup g xs es h ys → RunsBeside (Counts a.setup a.code) a.setup g xs es h ys
beside_of a b g h xs ys es setup code r =
    subst (λ k. RunsBeside (Counts a.setup k) a.setup g xs es h ys) code
    (subst (λ (s : Setup). RunsBeside (Counts s b.code) s g xs es h ys) setup r)

pub through_none : (a : StillShown) → GoesThrough a a [] (Runs a.setup)
through_none a = record {
  same_setup = refl;
  same_code = refl;
  taken = sym (append-nil a.taken);
  ran = λ g s. (g, refl, s, (refl, refl));
}

pub through_more : (a b c : StillShown) (es fs : List Entry) → GoesThrough a b es (Runs a.setup) →
    GoesThrough b c fs (Runs b.setup) → GoesThrough a c (es ++ fs) (Runs a.setup)
through_more a b c es fs x y = record {
  same_setup = y.same_setup ∙ x.same_setup;
  same_code = y.same_code ∙ x.same_code;
  taken = y.taken ∙ ap (λ (l : List Entry). l ++ fs) x.taken ∙ append_assoc a.taken es fs;
  ran = λ g s.
      let p = x.ran g s in
      let q = y.ran p.0 p.2 in (
        q.0,
        run_goes_on a.setup es fs g p.0 q.0 p.1 (subst (λ (u : Setup). Runs u p.0 fs q.0) x.same_setup q.1),
        q.2,
        run_goes_on_beside (Counts a.setup a.code) a.setup es fs g p.0 q.0 (tallies a) (tallies b) (tallies c) p.3
            (beside_of a b p.0 q.0 (tallies b) (tallies c) fs x.same_setup x.same_code q.3),
      );
}

-- ---- a schedule

pub begun_none : (a : StillShown) (stride : ℕ) → GoesThrough a a [] (HasBegun a.setup stride 0)
begun_none a stride = record {
  same_setup = refl;
  same_code = refl;
  taken = sym (append-nil a.taken);
  ran = λ g s. (g, refl, s, (refl, refl));
}

-- the event that the schedule takes is made
pub begun_through : (a b c : StillShown) (stride : ℕ) (es : List Entry) (e : Entry) →
    GoesThrough a b es (HasBegun a.setup stride 0) → GoesThrough b c (e ∷ []) (Runs b.setup)
    → ((h : World) → IsStill b h → chosen stride (length es) (enabled_events b.setup h) ≡ Some (event_of e)) →
    GoesThrough a c (es ++ e ∷ []) (HasBegun a.setup stride 0)
begun_through a b c stride es e x y picks = record {
  same_setup = y.same_setup ∙ x.same_setup;
  same_code = y.same_code ∙ x.same_code;
  taken = y.taken ∙ ap (λ (l : List Entry). l ++ e ∷ []) x.taken ∙ append_assoc a.taken es (e ∷ []);
  ran = λ g s.
      let p = x.ran g s in
      let q = y.ran p.0 p.2 in
      let zero_more : length es ≡ 0 + length es = omega arith in
      let one : Runs a.setup p.0 (e ∷ []) q.0 = subst (λ (u : Setup). Runs u p.0 (e ∷ []) q.0) x.same_setup q.1 in
      let step : Step a.setup p.0 e q.0 = subst (λ (m : World). Step a.setup p.0 e m) one.2 one.1 in
      let picked : chosen stride (0 + length es) (enabled_events a.setup p.0) ≡ Some (event_of e) =
      subst (λ k. chosen stride k (enabled_events a.setup p.0) ≡ Some (event_of e)) zero_more
      (subst (λ (u : Setup). chosen stride (length es) (enabled_events u p.0) ≡ Some (event_of e)) x.same_setup
      (picks p.0 p.2)) in (
        q.0,
        begun_more a.setup stride 0 g es p.0 e q.0 p.1 picked step,
        q.2,
        run_goes_on_beside (Counts a.setup a.code) a.setup es (e ∷ []) g p.0 q.0 (tallies a) (tallies b) (tallies c) p.3
            (beside_of a b p.0 q.0 (tallies b) (tallies c) (e ∷ []) x.same_setup x.same_code q.3),
      );
}

pub settled : (a b : StillShown) (stride : ℕ) (es : List Entry) → GoesThrough a b es (HasBegun a.setup stride 0) →
    ((h : World) → IsStill b h → enabled_events b.setup h ≡ []) → GoesThrough a b es (Settles a.setup stride 0)
settled a b stride es x quiet = record {
  same_setup = x.same_setup;
  same_code = x.same_code;
  taken = x.taken;
  ran = λ g s.
      let p = x.ran g s in (
        p.0,
        begun_settles a.setup stride 0 g es p.0 p.1 (subst (λ (u : Setup). enabled_events u p.0 ≡ []) x.same_setup
            (quiet p.0 p.2)),
        p.2,
        p.3,
      );
}

begun_runs : (s : Setup) (stride t : ℕ) (g : World) (es : List Entry) (h : World) → HasBegun s stride t g es h → Runs s g es h
begun_runs s stride t g [] h b = b
begun_runs s stride t g (e ∷ es) h b = (b.1, b.2, begun_runs s stride (suc t) b.1 es h b.3)

pub begun_is_run : (a b : StillShown) (stride : ℕ) (es : List Entry) → GoesThrough a b es (HasBegun a.setup stride 0) →
    GoesThrough a b es (Runs a.setup)
begun_is_run a b stride es x = record {
  same_setup = x.same_setup;
  same_code = x.same_code;
  taken = x.taken;
  ran = λ g s. let p = x.ran g s in (p.0, begun_runs a.setup stride 0 g es p.0 p.1, p.2, p.3);
}
