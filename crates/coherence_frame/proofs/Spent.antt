-- What the nodes of a run have counted, and that under the counts of a run no budget of handlers is spent.
use Rattle.std.proofs.Common.{◌≡◌, ℕ, zero, suc, ◌+◌, ◌-◌, ◌*◌, ◌<◌, ◌≤◌, List, [], ◌∷◌, length, Option, arith, refl, ap}
use Rattle.tw_base.specs.Lists.{Each, sum_below}
use Rattle.tw_base.specs.Shape.{handler_budget_of}
use Rattle.tw_base.specs.declared.entry.Act.{Act}
use Rattle.tw_base.specs.declared.entry.Entry.{Entry}
use Rattle.tw_base.specs.declared.message.Message.{Message}
use Rattle.dsm_runs.specs.Events.{Acts}
use Rattle.dsm_runs.specs.Locals.{Local, last_stamp}
use Rattle.dsm_runs.specs.Setups.{IsSetup, Setup}
use Rattle.dsm_runs.specs.Worlds.{Runs, World, start}
use Rattle.dsm_runs.specs.Invariants.{Bounded, UpTo}
use Rattle.dsm_runs.proofs.Bounds.{few_events, run_bounded, sum_bound, sum_zero}
use Rattle.block_spots.proofs.Sums.{sum_below_at, sum_below_one}
use Rattle.coherence_frame.specs.Ends.{Unspent}
use Rattle.coherence_frame.specs.Potential.{IsCounted, faults_in, handled_in, is_fault_event, is_handler_event, sent_in}
use Rattle.coherence_frame.proofs.Scheme.{Scheme}
use Rattle.tw_base.specs.declared.entry.Act.TheVariants as act

-- ---- one event

pub record Tells (l l2 : Local) (a : Act) : Type 0 where
  pub handled : l2.handled ≡ l.handled + is_handler_event a
  pub faults : l.instructions + is_fault_event a ≤ l2.instructions

acts_tell : (s : Setup) (i : ℕ) (l : Local) (front : Option Message) (x : Local) (e : Entry) (sends : List Message) (a : Act) →
    Acts s i l front x e sends a → Tells l x a
acts_tell s i l front x e sends (act.Load address value) p = let p0 =
    p.0.instructs in record { handled = omega arith; faults = omega arith }
acts_tell s i l front x e sends (act.Store address value) p = let p0 =
    p.0.instructs in record { handled = omega arith; faults = omega arith }
acts_tell s i l front x e sends (act.Faa address value sum) p = let p0 =
    p.0.instructs in record { handled = omega arith; faults = omega arith }
acts_tell s i l front x e sends (act.Print value) p = let p0 =
    p.0.instructs in record { handled = omega arith; faults = omega arith }
acts_tell s i l front x e sends act.Halt p = let p0 = p.0.instructs in record { handled = omega arith; faults = omega arith }
acts_tell s i l front x e sends (act.Trapped why) p = let p0 =
    p.0.instructs in record { handled = omega arith; faults = omega arith }
acts_tell s i l front x e sends act.Step p = let p0 = p.0.instructs in record { handled = omega arith; faults = omega arith }
acts_tell s i l front x e sends (act.Fault store block) p = let p0 =
    p.instructs in record { handled = omega arith; faults = omega arith }
acts_tell s i l front x e sends (act.Redelivered kind block from) p = let p0 =
    p.counts in record { handled = omega arith; faults = omega arith }
acts_tell s i l front x e sends (act.Delivered kind block from chan number) p = let p0 =
    p.counts in record { handled = omega arith; faults = omega arith }

abbrev pub handled_by : World → ℕ → ℕ
handled_by g i = (g.locals i).handled

abbrev pub sent_by : World → ℕ → ℕ
sent_by g i = (g.locals i).sent

abbrev pub instructed_by : World → ℕ → ℕ
instructed_by g i = (g.locals i).instructions

-- ---- a run

pub record Tally (s : Setup) (g : World) (j : List Entry) (h : World) : Type 0 where
  pub handled : sum_below s.shape.nodes (handled_by h) ≡ sum_below s.shape.nodes (handled_by g) + handled_in j
  pub sent : sum_below s.shape.nodes (sent_by h) ≡ sum_below s.shape.nodes (sent_by g) + sent_in j
  pub faults : sum_below s.shape.nodes (instructed_by g) + faults_in j ≤ sum_below s.shape.nodes (instructed_by h)

pub run_tally : (s : Setup) (g : World) (j : List Entry) (h : World) → Runs s g j h → Tally s g j h
run_tally s g [] h r = record {
  handled = let e : sum_below s.shape.nodes (handled_by g) ≡ sum_below s.shape.nodes (handled_by h) =
      ap (λ (x : World). sum_below s.shape.nodes (handled_by x)) r in omega (arith, e);
  sent = let e : sum_below s.shape.nodes (sent_by g) ≡ sum_below s.shape.nodes (sent_by h) =
      ap (λ (x : World). sum_below s.shape.nodes (sent_by x)) r in omega (arith, e);
  faults = let e : sum_below s.shape.nodes (instructed_by g) ≡ sum_below s.shape.nodes (instructed_by h) =
      ap (λ (x : World). sum_below s.shape.nodes (instructed_by x)) r in omega (arith, e);
}
run_tally s g (e ∷ j) h r =
    let x = r.1 in
    let rest = run_tally s r.0 j h r.2 in
    let one = acts_tell s e.node (g.locals e.node) x.front (r.0.locals e.node) e x.sends e.act x.local.acts in
    record {
      handled =
          omega (
            arith,
            rest.handled,
            one.handled,
            sum_below_one s.shape.nodes (handled_by r.0)
                (handled_by g) e.node x.local.at_node (λ i l d. ap (λ (y : Local). y.handled) (x.others i d)),
          );
      sent = omega (
        arith,
        rest.sent,
        x.local.sent,
        x.local.count,
        sum_below_one s.shape.nodes (sent_by r.0) (sent_by g) e.node x.local.at_node
            (λ i l d. ap (λ (y : Local). y.sent) (x.others i d)),
      );
      faults =
          omega (
            arith,
            rest.faults,
            one.faults,
            sum_below_one s.shape.nodes (instructed_by r.0)
                (instructed_by g) e.node x.local.at_node (λ i l d. ap (λ (y : Local). y.instructions) (x.others i d)),
          );
    }

-- ---- the numbers

times_up : (a b c : ℕ) → b ≤ c → a * b ≤ a * c
times_up zero b c l = omega arith
times_up (suc a) b c l = omega (arith, times_up a b c l, mul_suc a b, mul_suc a c)
  where
    mul_suc : (x y : ℕ) → suc x * y ≡ y + x * y
    mul_suc x y = grind arith

times_left : (a b c : ℕ) → a ≤ b → a * c ≤ b * c
times_left a b c l = let f : c * a ≤ c * b = times_up c a b l in let g : c * a ≡ a * c = grind arith in let h : c * b ≡ b * c =
    grind arith in omega arith

-- with y the fault events that all budgets allow
below_budget : (n budget k y : ℕ) → 1 ≤ n → 1 ≤ budget → y ≡ n * budget → k ≤ (3 * n - 1) * y → k < (4 * n + 4) * n * budget
below_budget n budget k y l m e h =
    let some : 1 ≤ y = (let f : n * 1 ≤ n * budget = times_up n 1 budget m in omega arith) in
    let more : (3 * n - 1 + 1) * y ≤ (4 * n + 4) * y = times_left (3 * n - 1 + 1) (4 * n + 4) y (omega arith) in
    let split : (3 * n - 1 + 1) * y ≡ (3 * n - 1) * y + y = grind arith in
    let whole : (4 * n + 4) * n * budget ≡ (4 * n + 4) * y = rw e (assoc (4 * n + 4) n budget) in
    omega arith
  where
    assoc : (a b c : ℕ) → a * b * c ≡ a * (b * c)
    assoc a b c = grind arith

below_sends : (n budget k y : ℕ) → 1 ≤ n → 1 ≤ budget → y ≡ n * budget → k ≤ 2 * n * y → k < (4 * n + 4) * n * budget
below_sends n budget k y l m e h =
    let some : 1 ≤ y = (let f : n * 1 ≤ n * budget = times_up n 1 budget m in omega arith) in
    let more : (2 * n + 1) * y ≤ (4 * n + 4) * y = times_left (2 * n + 1) (4 * n + 4) y (omega arith) in
    let split : (2 * n + 1) * y ≡ 2 * n * y + y = grind arith in
    let whole : (4 * n + 4) * n * budget ≡ (4 * n + 4) * y = rw e (assoc (4 * n + 4) n budget) in
    omega arith
  where
    assoc : (a b c : ℕ) → a * b * c ≡ a * (b * c)
    assoc a b c = grind arith

few : (n budget hb k : ℕ) → n ≤ 8 → budget ≤ hb → hb ≤ 1250000 → k ≤ n * (budget + hb) → k < last_stamp
few n budget hb k l b m h = let f : n * (budget + hb) ≤ 8 * (budget + hb) =
    times_left n 8 (budget + hb) l in let g : k < 20000001 = omega arith in small g
  where
    small : k < 20000001 → k < last_stamp
    small g = omega arith

budget_less : (n budget : ℕ) → 1 ≤ n → budget ≤ (4 * n + 4) * n * budget
budget_less n budget l =
    let f : (4 * n + 4) * 1 ≤ (4 * n + 4) * n = times_up (4 * n + 4) 1 n l in
    let g : 1 * budget ≤ (4 * n + 4) * n * budget = times_left 1 ((4 * n + 4) * n) budget (omega arith) in
    omega arith

-- ---- no budget is spent

each_less : (k : ℕ) (ms : List Message) → k < last_stamp → Each (UpTo k) ms → Each (λ m. m.stamp < last_stamp) ms
each_less k [] l h = tt
each_less k (m ∷ ms) l h = (less m.stamp k h.0 l, each_less k ms l h.1)
  where
    less : (a b : ℕ) → a ≤ b → b < last_stamp → a < last_stamp
    less a b x y = omega arith

module _ (scheme : Scheme) where
  pub unspent : (s : Setup) (j : List Entry) (g : World) → IsSetup s → IsCounted scheme.wording s j g → Runs s (start s) j g →
      Unspent s g
  unspent s j g is counted r = record {
    handled = λ i l. below_budget n s.shape.budget (g.locals i).handled
        (n * s.shape.budget) is.limits.some_node is.limits.some_budget refl
        (let one : (g.locals i).handled ≤ sum_below n (handled_by g) = sum_below_at n (handled_by g) i l in omega (
          arith,
          one,
          tally.handled,
          sum_zero n,
          counted.handlers,
          times_up (3 * n - 1) (faults_in j) (n * s.shape.budget) faults,
        ));
    sent = λ i l. below_sends n s.shape.budget (g.locals i).sent
        (n * s.shape.budget) is.limits.some_node is.limits.some_budget refl
        (let one : (g.locals i).sent ≤ sum_below n (sent_by g) = sum_below_at n (sent_by g) i l in omega
        (arith, one, tally.sent, sum_zero n, counted.sends, times_up (2 * n) (faults_in j) (n * s.shape.budget) faults));
    clock = λ i. (let b : (g.locals i).clock ≤ 0 + length j = bounded.clocks i in less (g.locals i).clock (0 + length j) b late);
    stamps = λ f t c. each_less (0 + length j) (g.wires f t c) late (bounded.wires f t c);
  }
    where
      n : ℕ
      n = s.shape.nodes

      less : (a b : ℕ) → a ≤ b → b < last_stamp → a < last_stamp
      less a b x y = omega arith

      tally : Tally s (start s) j g
      tally = run_tally s (start s) j g r

      bounded : Bounded s (0 + length j) g
      bounded =
          (run_bounded s j 0 (start s) g (record {
            total = sum_zero s.shape.nodes;
            instructions = λ i. omega arith;
            handled = λ i. omega arith;
            clocks = λ i. omega arith;
            wires = λ f t c. tt;
          }) r).0

      faults : faults_in j ≤ s.shape.nodes * s.shape.budget
      faults = omega (arith, tally.faults, sum_bound s.shape.nodes s.shape.budget (instructed_by g) bounded.instructions)

      late : 0 + length j < last_stamp
      late = few s.shape.nodes s.shape.budget (handler_budget_of s.shape) (0 + length j) is.limits.nodes
          (budget_less s.shape.nodes s.shape.budget is.limits.some_node) is.limits.budget
          (let f : length j ≤ s.shape.nodes * (s.shape.budget + handler_budget_of s.shape) = few_events s j g r in omega
          (arith, f))
