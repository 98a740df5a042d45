-- The outcome of a node that is not blocked, has not failed and can make no instruction event.
use Rattle.std.proofs.Common.{◌≡◌, ◌≢◌, ℕ, ◌<◌, ◌≤◌, Bool, false, nat_eq, nat_le, ◌||◌, None, arith, refl, sym, ap, subst, ◌∙◌}
use Rattle.std.proofs.Common.{◌⊎◌, inl, inr}
use Rattle.std.proofs.lemmas.Bool.Decides.{nat_tests}
use Rattle.tw_base.specs.Shape.{handler_budget_of}
use Rattle.tw_base.specs.declared.entry.Trap.{Trap}
use Rattle.dsm_runs.specs.declared.mode.Mode.{Mode}
use Rattle.dsm_runs.specs.declared.mode.Mode.TheVariants as mode
use Rattle.dsm_runs.specs.declared.outcome.Outcome.{Outcome}
use Rattle.dsm_runs.specs.declared.outcome.Outcome.TheVariants.{Trapped, Spent, Halted}
use Rattle.dsm_runs.specs.Locals.{IsReady, Local, MayInstruct, last_stamp}
use Rattle.dsm_runs.specs.Outcomes.{is_spent, outcome_by, outcome_in, outcome_of}
use Rattle.dsm_runs.specs.Setups.{Setup}
use Rattle.dsm_runs.specs.Tests.{is_ready}
use Rattle.sound_runs.specs.Sound.{EndsSoundly, HasSpent, IsSoundOutcome}

-- ---- a node whose outcome is known

halted_soundly : (s : Setup) (l : Local) → l.mode ≡ mode.Halted → outcome_of s l ≡ Halted → EndsSoundly s l
halted_soundly s l is o = record {
  outcome = subst (λ (x : Outcome). IsSoundOutcome s l x) (sym o) is;
  halted = ((λ x. is), (λ x. o));
  trapped = λ why. (
    (λ x. absurd (let z : Halted ≡ Trapped why = sym o ∙ x in cc)),
    (λ x. absurd (let z : mode.Halted ≡ mode.Trapped why = sym is ∙ x in cc)),
  );
  spent = ((λ x. absurd (let z : Halted ≡ Spent = sym o ∙ x in cc)), (λ x. absurd (subst (λ (m : Mode). IsReady m) is x.ready)));
}

trapped_soundly :
    (s : Setup) (l : Local) (why : Trap) → l.mode ≡ mode.Trapped why → outcome_of s l ≡ Trapped why → EndsSoundly s l
trapped_soundly s l why is o = record {
  outcome = subst (λ (x : Outcome). IsSoundOutcome s l x) (sym o) is;
  halted = (
    (λ x. absurd (let z : Trapped why ≡ Halted = sym o ∙ x in cc)),
    (λ x. absurd (let z : mode.Trapped why ≡ mode.Halted = sym is ∙ x in cc)),
  );
  trapped = λ other. (
    (λ x. is ∙ (let z : Trapped why ≡ Trapped other = sym o ∙ x in trap_same why other z)),
    (λ x. o ∙ (let z : mode.Trapped why ≡ mode.Trapped other = sym is ∙ x in mode_same why other z)),
  );
  spent = (
    (λ x. absurd (let z : Trapped why ≡ Spent = sym o ∙ x in cc)),
    (λ x. absurd (subst (λ (m : Mode). IsReady m) is x.ready)),
  );
}
  where
    trap_same : (a b : Trap) → Trapped a ≡ Trapped b → mode.Trapped a ≡ mode.Trapped b
    trap_same a b h = let e : a ≡ b = cc in ap (λ (x : Trap). mode.Trapped x) e

    mode_same : (a b : Trap) → mode.Trapped a ≡ mode.Trapped b → Trapped a ≡ Trapped b
    mode_same a b h = let e : a ≡ b = cc in ap (λ (x : Trap). Trapped x) e

not_halted : (m : Mode) → IsReady m → m ≡ mode.Halted → ⊥
not_halted m h e = subst (λ (x : Mode). IsReady x) e h

not_trapped : (m : Mode) (why : Trap) → IsReady m → m ≡ mode.Trapped why → ⊥
not_trapped m why h e = subst (λ (x : Mode). IsReady x) e h

spent_soundly : (s : Setup) (l : Local) → HasSpent s l → outcome_of s l ≡ Spent → EndsSoundly s l
spent_soundly s l has o = record {
  outcome = subst (λ (x : Outcome). IsSoundOutcome s l x) (sym o) has;
  halted = ((λ x. absurd (let z : Spent ≡ Halted = sym o ∙ x in cc)), (λ x. absurd (not_halted l.mode has.ready x)));
  trapped = λ why. (
    (λ x. absurd (let z : Spent ≡ Trapped why = sym o ∙ x in cc)),
    (λ x. absurd (not_trapped l.mode why has.ready x)),
  );
  spent = ((λ x. has), (λ x. o));
}

-- ---- the outcome

-- with budgets of messages left, a node is spent exactly where it would go on
spent_is_ready :
    (handled sent most : ℕ) (ready : Bool) → handled < most → sent < most →
    (nat_eq handled most || (nat_le most sent || ready)) ≡ ready
spent_is_ready handled sent most ready h k =
    let e : nat_eq handled most ≡ false = grind (arith, nat_tests) in
    let f : nat_le most sent ≡ false = grind (arith, nat_tests) in
    rw e (rw f refl)

outcome_is :
    (s : Setup) (l : Local) → l.failed ≡ None → l.handled < handler_budget_of s.shape → l.sent < handler_budget_of s.shape →
    outcome_of s l ≡ outcome_in l.mode (is_ready l.mode)
outcome_is s l ok h k = ap (λ x. outcome_by x l.mode (is_spent s l)) ok ∙ ap (λ x. outcome_in l.mode x)
    (spent_is_ready l.handled l.sent (handler_budget_of s.shape) (is_ready l.mode) h k)

all_made :
    (s : Setup) (l : Local) → l.failed ≡ None → IsReady l.mode → l.instructions ≤ s.shape.budget →
    l.sent < handler_budget_of s.shape → l.clock < last_stamp → ¬ MayInstruct s l → HasSpent s l
all_made s l ok ready few sent clock rests = record { ready = ready; all = go (reaches l.instructions s.shape.budget few) }
  where
    reaches : (a b : ℕ) → a ≤ b → (a < b) ⊎ (a ≡ b)
    reaches a b h = grind arith

    go : (l.instructions < s.shape.budget) ⊎ (l.instructions ≡ s.shape.budget) → l.instructions ≡ s.shape.budget
    go (inl h) = absurd (rests (record { unfailed = ok; ready = ready; instructions = h; sent = sent; clock = clock }))
    go (inr h) = h

pub ends_soundly :
    (s : Setup) (l : Local) → l.failed ≡ None → l.handled < handler_budget_of s.shape → l.sent < handler_budget_of s.shape →
    l.clock < last_stamp →
    l.instructions ≤ s.shape.budget → ((b : ℕ) → l.mode ≢ mode.Blocked b) → ¬ MayInstruct s l → EndsSoundly s l
ends_soundly s l ok handled sent clock few free rests = go l.mode refl
  where
    out : (m : Mode) → l.mode ≡ m → outcome_of s l ≡ outcome_in m (is_ready m)
    out m e = outcome_is s l ok handled sent ∙ ap (λ (x : Mode). outcome_in x (is_ready x)) e

    ready : (m : Mode) → l.mode ≡ m → IsReady m → HasSpent s l
    ready m e is = all_made s l ok (subst (λ (x : Mode). IsReady x) (sym e) is) few sent clock rests

    go : (m : Mode) → l.mode ≡ m → EndsSoundly s l
    go mode.Running e = spent_soundly s l (ready mode.Running e tt) (out mode.Running e)
    go mode.Woken e = spent_soundly s l (ready mode.Woken e tt) (out mode.Woken e)
    go (mode.Blocked b) e = absurd (free b e)
    go mode.Halted e = halted_soundly s l e (out mode.Halted e)
    go (mode.Trapped why) e = trapped_soundly s l why e (out (mode.Trapped why) e)
