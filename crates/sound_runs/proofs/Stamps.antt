-- The stamps of a run rise at each node, and none is late.
use Rattle.std.proofs.Common.{ℕ, ◌+◌, ◌*◌, ◌<◌, ◌≤◌, List, [], ◌∷◌, length, arith, sym, subst, inl, inr}
use Rattle.std.proofs.lemmas.Bool.{cases_eq}
use Rattle.std.specs.List.{filter}
use Rattle.tw_base.specs.Lists.{Each}
use Rattle.tw_base.specs.Shape.{handler_budget_of}
use Rattle.tw_base.specs.declared.entry.Entry.{Entry}
use Rattle.dsm_runs.specs.Laws.{IsRising}
use Rattle.dsm_runs.specs.Locals.{Local, last_stamp}
use Rattle.dsm_runs.specs.Merges.{is_of}
use Rattle.dsm_runs.specs.Setups.{Setup}
use Rattle.dsm_runs.specs.Worlds.{Runs, World, start}
use Rattle.dsm_runs.proofs.Bounds.{few_events, runs_bounded}
use Rattle.dsm_runs.proofs.Lists.{Each-implied}
use Rattle.dsm_runs.proofs.Merging.{of_here, of_other}
use Rattle.dsm_runs.proofs.Stamps.{latest_more}
use Rattle.sound_runs.specs.Stamps.{StampsAreSound}

-- ---- they rise

-- these entries are later than this clock, and each is later than those before it
record Rises (clock : ℕ) (es : List Entry) : Type 0 where
  later : Each (λ e. clock < e.stamp) es
  rising : IsRising es

rises_on : (clock : ℕ) (e : Entry) (es : List Entry) → clock < e.stamp → Rises e.stamp es → Rises clock (e ∷ es)
rises_on clock e es now r = record {
  later = (now, Each-implied (λ x. e.stamp < x.stamp) (λ x. clock < x.stamp) es (λ x h. omega (arith, h, now)) r.later);
  rising = (r.later, r.rising);
}

rises : (s : Setup) (j : List Entry) (g h : World) (i : ℕ) → Runs s g j h → Rises (g.locals i).clock (filter (is_of i) j)
rises s [] g h i r = record { later = tt; rising = tt }
rises s (e ∷ j) g h i r = go (rises s j r.0 h i r.2)
  where
    here :
        Rises (r.0.locals e.node).clock (filter (is_of e.node) j) → Rises (g.locals e.node).clock
        (filter (is_of e.node) (e ∷ j))
    here rest =
        let now : (g.locals e.node).clock < e.stamp = omega (
          arith,
          r.1.local.stamp,
          latest_more
              (g.locals e.node).clock r.1.front,
        ) in
        let behind : Rises e.stamp (filter (is_of e.node) j) = subst
        (λ (clock : ℕ). Rises clock (filter (is_of e.node) j)) r.1.local.clock rest in
        subst (λ (es : List Entry). Rises (g.locals e.node).clock es) (sym (of_here e j))
        (rises_on (g.locals e.node).clock e (filter (is_of e.node) j) now behind)

    go : Rises (r.0.locals i).clock (filter (is_of i) j) → Rises (g.locals i).clock (filter (is_of i) (e ∷ j))
    go rest = elim (cases_eq i e.node) [
      | inl q ↦ subst (λ (k : ℕ). Rises (g.locals k).clock (filter (is_of k) (e ∷ j))) (sym q)
          (here (subst (λ (k : ℕ). Rises (r.0.locals k).clock (filter (is_of k) j)) q rest))
      | inr d ↦ subst (λ (es : List Entry). Rises (g.locals i).clock es) (sym (of_other i e j d))
          (subst (λ (l : Local). Rises l.clock (filter (is_of i) j)) (r.1.others i d) rest)
    ]

-- ---- none is late

times_left : (a b c : ℕ) → a ≤ b → a * c ≤ b * c
times_left a b c l = grind arith

budget_less : (n budget : ℕ) → 1 ≤ n → budget ≤ (4 * n + 4) * n * budget
budget_less n budget l =
    let some : 1 * 1 ≤ (4 * n + 4) * n = grind arith in
    let f : 1 * budget ≤ (4 * n + 4) * n * budget = times_left 1 ((4 * n + 4) * n) budget (omega (arith, some)) in
    omega (arith, f)

few : (n budget most k : ℕ) → n ≤ 8 → budget ≤ most → most ≤ 1250000 → k ≤ n * (budget + most) → k < 20000001
few n budget most k eight less limit h = let f : n * (budget + most) ≤ 8 * (budget + most) = times_left n 8
    (budget + most) eight in omega (arith, f, h, less, limit)

early : (k : ℕ) → k < 20000001 → k < last_stamp
early k h = omega (arith, h)

at_most : (a b c : ℕ) → a ≤ b → b < c → a < c
at_most a b c h k = omega (arith, h, k)

pub stamps_are_sound : StampsAreSound
stamps_are_sound s j g is r =
    let bounds = runs_bounded s j g r in
    let events : length j ≤ s.shape.nodes * (s.shape.budget + handler_budget_of s.shape) = few_events s j g r in
    let late : length j < last_stamp = early (length j) (few s.shape.nodes s.shape.budget (handler_budget_of s.shape)
    (length j) is.limits.nodes (budget_less s.shape.nodes s.shape.budget is.limits.some_node) is.limits.budget events) in
    record {
      rising = λ i. (rises s j (start s) g i r).rising;
      events = events;
      stamps = bounds.1;
      clocks = λ i. at_most (g.locals i).clock (length j) last_stamp (bounds.0.clocks i) late;
    }
