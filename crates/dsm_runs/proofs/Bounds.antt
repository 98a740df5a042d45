-- A run has few events, and no stamp passes their number.
use Rattle.std.proofs.Common.{◌≡◌, ◌≢◌, ℕ, zero, suc, ◌+◌, ◌*◌, ◌<◌, ◌≤◌, length, true, ◌&&◌, nat_eq, List, [], ◌∷◌, ◌++◌}
use Rattle.std.proofs.Common.{Option, Some, arith, refl, ap, sym, ◌∙◌, subst, inl, inr}
use Rattle.std.proofs.lemmas.Bool.{cases_eq}
use native.Mathlib.Decide.{ℕ_discrete}
use Rattle.std.specs.List.{filter}
use Rattle.tw_base.specs.declared.entry.Act.{Act}
use Rattle.tw_base.specs.declared.entry.Act.TheVariants as act
use Rattle.tw_base.specs.declared.message.Chan.{Chan}
use Rattle.tw_base.specs.declared.entry.Entry.{Entry}
use Rattle.tw_base.specs.declared.message.Message.{Message}
use Rattle.tw_base.specs.Shape.{handler_budget_of}
use Rattle.dsm_runs.specs.Setups.{Setup}
use Rattle.dsm_runs.specs.Locals.{Local}
use Rattle.tw_base.specs.Lists.{Each, sum_below}
use Rattle.dsm_runs.specs.Messages.{chan_eq, on_wire, posted}
use Rattle.dsm_runs.specs.Events.{Acts, latest}
use Rattle.dsm_runs.specs.Worlds.{taken, takes_from, World, Step, Runs, start}
use Rattle.dsm_runs.specs.Invariants.{Bounded, UpTo, done}
use Rattle.dsm_runs.proofs.Lists.{nat_eq_refl, chan_eq_refl, Each-append, Each-implied, Each-filter, Each-numbered}
use Rattle.dsm_runs.proofs.Sends.{IsSent, step_sent}
use Rattle.dsm_runs.proofs.OneEnd.{taken_here}

sum_same : (n : ℕ) (f g : ℕ → ℕ) → ((j : ℕ) → j < n → f j ≡ g j) → sum_below n f ≡ sum_below n g
sum_same zero f g h = refl
sum_same (suc n) f g h = omega (arith, sum_same n f g (λ j l. h j (omega arith)), h n (omega arith))

sum_one : (n : ℕ) (f g : ℕ → ℕ) (i : ℕ) → i < n → ((j : ℕ) → j < n → j ≢ i → f j ≡ g j) →
    sum_below n f + g i ≡ sum_below n g + f i
sum_one zero f g i l h = absurd (omega arith)
sum_one (suc n) f g i l h =
    elim (ℕ_discrete i n) [
      | yes e ↦ rw e (omega (arith, sum_same n f g (λ j k. h j (omega arith) (omega arith))))
      | no d ↦ omega (arith, sum_one n f g i (omega arith) (λ j k. h j (omega arith)), h n (omega arith) (omega arith))
    ]

pub sum_zero : (n : ℕ) → sum_below n (λ i. 0) ≡ 0
sum_zero zero = refl
sum_zero (suc n) = omega (arith, sum_zero n)

pub sum_bound : (n c : ℕ) (f : ℕ → ℕ) → ((j : ℕ) → f j ≤ c) → sum_below n f ≤ n * c
sum_bound zero c f h = omega arith
sum_bound (suc n) c f h = omega (arith, sum_bound n c f h, h n)

pub record Counted (s : Setup) (l l2 : Local) : Type 0 where
  pub one : l2.instructions + l2.handled ≡ l.instructions + l.handled + 1
  pub instructions : l.instructions ≤ s.shape.budget → l2.instructions ≤ s.shape.budget
  pub handled : l.handled ≤ handler_budget_of s.shape → l2.handled ≤ handler_budget_of s.shape

acts_counted : (s : Setup) (i : ℕ) (l : Local) (front : Option Message) (x : Local) (e : Entry) (sends : List Message)
    (a : Act) → Acts s i l front x e sends a → Counted s l x
acts_counted s i l front x e sends (act.Load address value) p = let p0 = p.0.instructs in let m =
    p0.may.instructions in record { one = omega arith; instructions = λ h. omega arith; handled = λ h. omega arith }
acts_counted s i l front x e sends (act.Store address value) p = let p0 = p.0.instructs in let m =
    p0.may.instructions in record { one = omega arith; instructions = λ h. omega arith; handled = λ h. omega arith }
acts_counted s i l front x e sends (act.Faa address value sum) p = let p0 = p.0.instructs in let m =
    p0.may.instructions in record { one = omega arith; instructions = λ h. omega arith; handled = λ h. omega arith }
acts_counted s i l front x e sends (act.Print value) p = let p0 = p.0.instructs in let m =
    p0.may.instructions in record { one = omega arith; instructions = λ h. omega arith; handled = λ h. omega arith }
acts_counted s i l front x e sends act.Halt p = let p0 = p.0.instructs in let m =
    p0.may.instructions in record { one = omega arith; instructions = λ h. omega arith; handled = λ h. omega arith }
acts_counted s i l front x e sends (act.Trapped why) p = let p0 = p.0.instructs in let m =
    p0.may.instructions in record { one = omega arith; instructions = λ h. omega arith; handled = λ h. omega arith }
acts_counted s i l front x e sends act.Step p = let p0 = p.0.instructs in let m =
    p0.may.instructions in record { one = omega arith; instructions = λ h. omega arith; handled = λ h. omega arith }
acts_counted s i l front x e sends (act.Fault store block) p = let p0 = p.instructs in let m =
    p0.may.instructions in record { one = omega arith; instructions = λ h. omega arith; handled = λ h. omega arith }
acts_counted s i l front x e sends (act.Redelivered kind block from) p = let p0 = p.counts in let m =
    p0.may.handled in record { one = omega arith; instructions = λ h. omega arith; handled = λ h. omega arith }
acts_counted s i l front x e sends (act.Delivered kind block from chan number) p = let p0 = p.counts in let m =
    p0.may.handled in record { one = omega arith; instructions = λ h. omega arith; handled = λ h. omega arith }

each_rest : (P : Message → Type 0) (xs ys : List Message) → Each P (xs ++ ys) → Each P ys
each_rest P [] ys h = h
each_rest P (x ∷ xs) ys h = each_rest P xs ys h.1

acts_late : (s : Setup) (i : ℕ) (l : Local) (front : Option Message) (x : Local) (e : Entry) (sends : List Message) (a : Act)
    (k : ℕ) → l.clock ≤ k
    → ((f : ℕ) (c : Chan) (m : Message) → takes_from a f c ≡ true → front ≡ Some m → m.stamp ≤ k) →
    Acts s i l front x e sends a → latest l.clock front ≤ k
acts_late s i l front x e sends (act.Load address value) k c h p = rw p.0.instructs.no_front c
acts_late s i l front x e sends (act.Store address value) k c h p = rw p.0.instructs.no_front c
acts_late s i l front x e sends (act.Faa address value sum) k c h p = rw p.0.instructs.no_front c
acts_late s i l front x e sends (act.Print value) k c h p = rw p.0.instructs.no_front c
acts_late s i l front x e sends act.Halt k c h p = rw p.0.instructs.no_front c
acts_late s i l front x e sends (act.Trapped why) k c h p = rw p.0.instructs.no_front c
acts_late s i l front x e sends act.Step k c h p = rw p.0.instructs.no_front c
acts_late s i l front x e sends (act.Fault store block) k c h p = rw p.instructs.no_front c
acts_late s i l front x e sends (act.Redelivered kind block from) k c h p = rw p.no_front c
acts_late s i l front x e sends (act.Delivered kind block from chan number) k c h p =
    let here : (nat_eq from from && chan_eq chan chan) ≡ true = rw (nat_eq_refl from) (chan_eq_refl chan) in
    let late : p.message.stamp ≤ k = h from chan p.message here p.is_front in
    rw p.is_front (omega (arith, late, c))

step_late : (s : Setup) (k : ℕ) (g : World) (e : Entry) (g2 : World) → Bounded s k g → Step s g e g2 → e.stamp ≤ k + 1
step_late s k g e g2 b r =
    omega (
      arith,
      r.local.stamp,
      acts_late s e.node (g.locals e.node) r.front (g2.locals e.node) e r.sends e.act k
          (b.clocks e.node) front_late r.local.acts,
    )
  where
    front_late : (f : ℕ) (c : Chan) (m : Message) → takes_from e.act f c ≡ true → r.front ≡ Some m → m.stamp ≤ k
    front_late f c m h q =
        let whole : g.wires f e.node c ≡ m ∷ r.between f e.node c = r.takes f e.node c
        ∙ ap (λ (l : List Message). l ++ r.between f e.node c) (taken_here e r.front f e.node c m refl h q) in
        let all : Each (UpTo k) (m ∷ r.between f e.node c) =
        subst (λ (l : List Message). Each (UpTo k) l) whole (b.wires f e.node c) in
        all.0

step_bounded : (s : Setup) (k : ℕ) (g : World) (e : Entry) (g2 : World) → Bounded s k g → Step s g e g2 → Bounded s (k + 1) g2
step_bounded s k g e g2 b r = record {
  total = omega (
    arith,
    sum_one s.shape.nodes (done g2) (done g) e.node r.local.at_node
        (λ j l d. ap (λ (x : Local). x.instructions + x.handled) (r.others j d)),
    b.total,
    counted.one,
  );
  instructions = λ i. elim (cases_eq i e.node) [
    | inl q ↦ rw q (counted.instructions (b.instructions e.node))
    | inr d ↦ rw (r.others i d) (b.instructions i)
  ];
  handled = λ i. elim (cases_eq i e.node) [
    | inl q ↦ rw q (counted.handled (b.handled e.node))
    | inr d ↦ rw (r.others i d) (b.handled i)
  ];
  clocks = λ i. elim (cases_eq i e.node) [
    | inl q ↦ rw q (omega (arith, r.local.clock, late))
    | inr d ↦ rw (r.others i d) (omega (arith, b.clocks i))
  ];
  wires = λ f t c.
      let put : List Message = posted (g.next f t c) f t c r.sends in
      let rest : Each (UpTo k) (r.between f t c) = each_rest (UpTo k) (taken e r.front f t c) (r.between f t c)
      (subst (λ (l : List Message). Each (UpTo k) l) (r.takes f t c) (b.wires f t c)) in
      let sent : Each (IsSent e.node e.stamp) put =
      Each-numbered (IsSent e.node e.stamp) (λ m j x. record { sender = x.sender; at = x.at }) (g.next f t c)
      (filter (on_wire f t c) r.sends)
      (Each-filter (IsSent e.node e.stamp) (on_wire f t c) r.sends
      (step_sent s e.node (g.locals e.node) r.front (g2.locals e.node) e r.sends r.local)) in
      subst (λ (l : List Message). Each (UpTo (k + 1)) l) (sym (r.wires f t c))
      (Each-append (UpTo (k + 1)) (r.between f t c) put
      (Each-implied (UpTo k) (UpTo (k + 1)) (r.between f t c) (λ m h. omega (arith, h)) rest)
      (Each-implied (IsSent e.node e.stamp) (UpTo (k + 1)) put (λ m h. omega (arith, h.at, late)) sent));
}
  where
    counted : Counted s (g.locals e.node) (g2.locals e.node)
    counted = acts_counted s e.node (g.locals e.node) r.front (g2.locals e.node) e r.sends e.act r.local.acts

    late : e.stamp ≤ k + 1
    late = step_late s k g e g2 b r

pub run_bounded : (s : Setup) (es : List Entry) (k : ℕ) (g g2 : World) → Bounded s k g → Runs s g es g2 →
    Bounded s (k + length es) g2 × Each (λ e. e.stamp ≤ k + length es) es
run_bounded s [] k g g2 b r = (subst (λ (x : World). Bounded s (k + 0) x) r (subst (λ n. Bounded s n g) (omega arith) b), tt)
run_bounded s (e ∷ es) k g g2 b r =
    let rest = run_bounded s es (k + 1) r.0 g2 (step_bounded s k g e r.0 b r.1) r.2 in
    let now : e.stamp ≤ k + 1 = step_late s k g e r.0 b r.1 in
    let shift : k + 1 + length es ≡ k + suc (length es) = omega arith in (
      subst (λ n. Bounded s n g2) shift rest.0,
      (
        omega (arith, now, shift),
        Each-implied (λ x. x.stamp ≤ k + 1 + length es) (λ x. x.stamp ≤ k + suc (length es)) es
            (λ x h. omega (arith, h, shift)) rest.1,
      ),
    )

-- what a run from the start comes to
pub runs_bounded : (s : Setup) (journal : List Entry) (g : World) → Runs s (start s) journal g →
    Bounded s (length journal) g × Each (λ e. e.stamp ≤ length journal) journal
runs_bounded s journal g r =
    let at_start : Bounded s 0 (start s) = record {
      total = sum_zero s.shape.nodes;
      instructions = λ i. omega arith;
      handled = λ i. omega arith;
      clocks = λ i. omega arith;
      wires = λ f t c. tt;
    } in
    let all = run_bounded s journal 0 (start s) g at_start r in
    let none : 0 + length journal ≡ length journal = omega arith in (
      subst (λ n. Bounded s n g) none all.0,
      Each-implied (λ e. e.stamp ≤ 0 + length journal)
          (λ e. e.stamp ≤ length journal) journal (λ x h. omega (arith, h)) all.1,
    )

pub few_events : (s : Setup) (journal : List Entry) (g : World) → Runs s (start s) journal g →
    length journal ≤ s.shape.nodes * (s.shape.budget + handler_budget_of s.shape)
few_events s journal g r =
    let all = (runs_bounded s journal g r).0 in
    let few : sum_below s.shape.nodes (done g) ≤ s.shape.nodes * (s.shape.budget + handler_budget_of s.shape) =
    sum_bound s.shape.nodes (s.shape.budget + handler_budget_of s.shape) (done g)
    (λ i. omega (arith, all.instructions i, all.handled i)) in
    let total : sum_below s.shape.nodes (done g) ≡ length journal = all.total in
    omega (arith, few, total)
