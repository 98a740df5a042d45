-- One entry of one log, as a step of all courses.
use Rattle.std.proofs.Common.{◌≡◌, ◌≢◌, ℕ, ◌+◌, ◌<◌, length, Bool, true, false, ◌&&◌, nat_eq, if◌then◌else◌, List, [], ◌∷◌}
use Rattle.std.proofs.Common.{◌++◌, Option, Some, None, arith, refl, ap, sym, ◌∙◌, subst, append-nil, inl, inr}
use Rattle.std.specs.Prelude.{option_to_list}
use Rattle.std.proofs.lemmas.Bool.{cases_eq, eqb-true}
use Rattle.std.specs.List.{filter}
use Rattle.tw_base.specs.declared.message.Chan.{Chan}
use Rattle.tw_base.specs.declared.entry.Entry.{Entry}
use Rattle.tw_base.specs.declared.message.Message.{Message}
use Rattle.dsm_runs.specs.Setups.{Setup}
use Rattle.dsm_runs.specs.Locals.{Local}
use Rattle.tw_base.specs.Lists.{Each}
use Rattle.dsm_runs.specs.Messages.{on_wire, numbered, posted}
use Rattle.dsm_runs.specs.Events.{LocalStep, latest}
use Rattle.dsm_runs.specs.Worlds.{taken, takes_from, Wires}
use Rattle.dsm_runs.specs.Replays.{Course, ReplaysOne}
use Rattle.dsm_runs.proofs.Lists.{nat_eq_refl}
use Rattle.dsm_runs.proofs.Sends.{IsSent, step_sent, From}

pub nat_eq_other : (a b : ℕ) → a ≢ b → nat_eq a b ≡ false
nat_eq_other a b d = go (nat_eq a b) refl
  where
    go : (x : Bool) → nat_eq a b ≡ x → nat_eq a b ≡ false
    go true h = absurd (d (eqb-true a b h))
    go false h = h

-- the same for all numbers, nodes or not
abbrev pub AgreesAll : (ℕ → Course) → Wires → Type 0
AgreesAll ends left = (f t : ℕ) (c : Chan) → (ends f).sent t c ≡ (ends t).took f c ++ left f t c

-- what each node has, with that of node i changed
abbrev pub changed : {X : Type 0} → (ℕ → X) → ℕ → X → ℕ → X
changed f i x k = if nat_eq k i then x else f k

pub changed_here : {X : Type 0} (f : ℕ → X) (i : ℕ) (x : X) → changed f i x i ≡ x
changed_here f i x = rw (nat_eq_refl i) refl

pub changed_other : {X : Type 0} (f : ℕ → X) (i : ℕ) (x : X) (k : ℕ) → k ≢ i → changed f i x k ≡ f k
changed_other f i x k d = rw (nat_eq_other k i d) refl

pub taken_elsewhere : (e : Entry) (front : Option Message) (f t : ℕ) (c : Chan) → t ≢ e.node → taken e front f t c ≡ []
taken_elsewhere e front f t c d = rw (nat_eq_other t e.node d) refl

filter_none : (i f t : ℕ) (c : Chan) (stamp : ℕ) (ms : List Message) → f ≢ i → Each (IsSent i stamp) ms →
    filter (on_wire f t c) ms ≡ []
filter_none i f t c stamp [] d h = refl
filter_none i f t c stamp (m ∷ ms) d h =
    let away : nat_eq m.from f ≡ false = nat_eq_other m.from f (λ q. d (sym q ∙ h.0.sender)) in
    rw away (filter_none i f t c stamp ms d h.1)

-- Node e.node makes e, and the other nodes stay.
pub record Turn (s : Setup) (e : Entry) (a b : ℕ → Course) : Type 0 where
  pub front : Option Message
  pub sends : List Message
  pub local : LocalStep s e.node (a e.node).local front (b e.node).local e sends
  pub others : (k : ℕ) → k ≢ e.node → b k ≡ a k
  pub took : (f t : ℕ) (c : Chan) → (b t).took f c ≡ (a t).took f c ++ taken e front f t c
  pub sent : (f t : ℕ) (c : Chan) → (b f).sent t c ≡ (a f).sent t c ++ posted (length ((a f).sent t c)) f t c sends
  pub away : (f t : ℕ) (c : Chan) → f ≢ e.node → filter (on_wire f t c) sends ≡ []

pub turn : (s : Setup) (e : Entry) (a : ℕ → Course) (mid : Course) → ReplaysOne s e.node (a e.node) e mid →
    Turn s e a (changed a e.node mid)
turn s e a mid r = record {
  front = r.front;
  sends = r.sends;
  local = subst (λ (x : Course). LocalStep s e.node (a e.node).local r.front x.local e r.sends)
      (sym (changed_here a e.node mid)) r.local;
  others = λ k d. changed_other a e.node mid k d;
  took = λ f t c. elim (cases_eq t e.node) [
    | inl q ↦ rw q (ap (λ (x : Course). x.took f c) (changed_here a e.node mid) ∙ r.took f c)
    | inr d ↦ ap (λ (x : Course). x.took f c) (changed_other a e.node mid t d) ∙ sym (append-nil ((a t).took f c))
        ∙ ap (λ (x : List Message). (a t).took f c ++ x) (sym (taken_elsewhere e r.front f t c d))
  ];
  sent = λ f t c. elim (cases_eq f e.node) [
    | inl q ↦ rw q (ap (λ (x : Course). x.sent t c) (changed_here a e.node mid) ∙ r.sent t c)
    | inr d ↦ ap (λ (x : Course). x.sent t c) (changed_other a e.node mid f d) ∙ sym (append-nil ((a f).sent t c))
        ∙ ap (λ (x : List Message). (a f).sent t c ++ numbered (length ((a f).sent t c)) x) (sym (none f t c d))
  ];
  away = none;
}
  where
    none : (f t : ℕ) (c : Chan) → f ≢ e.node → filter (on_wire f t c) r.sends ≡ []
    none f t c d = filter_none e.node f t c e.stamp r.sends d
        (step_sent s e.node (a e.node).local r.front mid.local e r.sends r.local)

pub turn_front : (s : Setup) (e : Entry) (a : ℕ → Course) (mid : Course) (r : ReplaysOne s e.node (a e.node) e mid) →
    (turn s e a mid r).front ≡ r.front
unfolding turn
turn_front s e a mid r = refl

abbrev pub IsEarly : ℕ → Message → Type 0
IsEarly k m = m.stamp < k

early_if : (k : ℕ) (b : Bool) (front : Option Message) (clock : ℕ) → k ≡ latest clock front + 1 →
    Each (IsEarly k) (if b then option_to_list front else [])
early_if k false front clock h = tt
early_if k true None clock h = tt
early_if k true (Some m) clock h = (omega arith, tt)

-- what an event takes was sent under an earlier stamp
pub taken_early : (s : Setup) (e : Entry) (l l2 : Local) (front : Option Message) (sends : List Message) (f t : ℕ) (c : Chan) →
    LocalStep s e.node l front l2 e sends → Each (IsEarly e.stamp) (taken e front f t c)
taken_early s e l l2 front sends f t c r = early_if e.stamp (nat_eq t e.node && takes_from e.act f c) front l.clock r.stamp

pub cons_head : (x y : Message) (xs ys : List Message) → x ∷ xs ≡ y ∷ ys → x ≡ y
cons_head x y xs ys h = cc

pub cons_tail : (x y : Message) (xs ys : List Message) → x ∷ xs ≡ y ∷ ys → xs ≡ ys
cons_tail x y xs ys h = cc

-- Of what is sent, the earlier messages are on the wire already.
pub split_front : (k : ℕ) (wire more front later : List Message) → wire ++ more ≡ front ++ later → Each (From k) more →
    Each (IsEarly k) front → (rest : List Message) × (wire ≡ front ++ rest)
split_front k wire more [] later h late early = (wire, refl)
split_front k [] more (m ∷ ms) later h late early = let all : Each (From k) (m ∷ (ms ++ later)) =
    subst (λ (x : List Message). Each (From k) x) h late in absurd (omega (arith, all.0, early.0))
split_front k (x ∷ xs) more (m ∷ ms) later h late early =
    let rest = split_front k xs more ms later (cons_tail x m (xs ++ more) (ms ++ later) h) late early.1 in (
      rest.0,
      ap (λ (l : List Message). x ∷ l) rest.1 ∙ ap (λ (y : Message). y ∷ (ms ++ rest.0))
          (cons_head x m (xs ++ more) (ms ++ later) h),
    )
