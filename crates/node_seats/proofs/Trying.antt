-- What is kept of wires, and which wires were tried.
use Rattle.std.proofs.Common.{◌≡◌, ◌≢◌, ◌∙◌, ◌<◌, ◌≤◌, ◌+◌, ◌-◌, ◌*◌, ◌^◌, ◌⊎◌, ℕ, true, false, List, Option, None, Some}
use Rattle.std.proofs.Common.{length, set, refl, ap, sym, subst, inl, inr, arith}
use Rattle.std.specs.Prelude.{slice_get, slice_set}
use Rattle.std.specs.List.{slice_index_or}
use Rattle.std.proofs.lemmas.Bool.{cases_eq, cases_lt}
use Rattle.std.proofs.lemmas.List.{get_or-set_other, get_or-set_same}
use Rattle.std.proofs.lemmas.Option.{slice_get_within}
use Rattle.tw_base.specs.declared.message.Chan.{Chan}
use Rattle.tw_base.specs.declared.message.Chan.TheVariants.{Zero, One}
use Rattle.tw_base.specs.declared.message.Message.{Message}
use Rattle.dsm_runs.specs.Tests.{is_early}
use Rattle.node_meaning.specs.Nodes.{Shown}
use Rattle.tw_wire.specs.Places.{place}
use Rattle.tw_wire.specs.Sides.{Receiving, one_more, with_look}
use Rattle.seat_meaning.specs.Seats.{Seated, looks_of}
use Rattle.node_seats.specs.Steps.{HasKept, HasTried, IsUntouched, closed_in, front_in, looks_in}
use Rattle.node_seats.specs.Turns.{Rose}
use Rattle.node_seats.proofs.Ends.{set_here, set_other, with_recvs}

-- ---- places

-- a place below 2 n is of a node below n
pub node_below : (n f : ℕ) (c : Chan) → place f c < 2 * n → f < n
node_below n f Zero l = omega arith
node_below n f One l = omega arith

one_place : (k j : ℕ) → k ≤ j → j < k + 1 → j ≡ k
one_place k j l h = omega arith

outside : (k j : ℕ) → (j < k) ⊎ (k + 1 ≤ j) → j ≢ k
outside k j (inl l) e = absurd (omega arith)
outside k j (inr l) e = absurd (omega arith)

-- ---- one wire

-- nothing was done
pub kept_none : (s : Seated) (k : ℕ) → (front_in s k ≡ None → closed_in s k ≡ false → ⊥) → HasKept s s k (k + 1)
kept_none s k not_open = record {
  node = refl;
  looked = λ j l h none opened. let e = one_place k j l h in
      absurd (not_open (subst (λ i. front_in s i ≡ None) e none) (subst (λ i. closed_in s i ≡ false) e opened));
  not_lower = λ j. omega arith;
  others = λ j away. record { front = refl; closed = refl; looks = refl };
}

rose : (a : ℕ) → Rose a (one_more a)
rose a = elim (cases_lt a (2 ^ 64 - 1)) [ inl l ↦ inl (omega arith) | inr past ↦ inr (omega arith) ]

not_fallen : (a : ℕ) → a < 2 ^ 64 → a ≤ one_more a
not_fallen a l = omega arith

-- the looks after a change at one place
looks_there : (rs : List Receiving) (k j : ℕ) (r' : Receiving) → j ≢ k → looks_of (slice_get (set rs k r') j) ≡ looks_of
    (slice_get rs j)
looks_there rs k j r' d = ap looks_of (set_other rs k j r' d)

looks_here : (rs : List Receiving) (k : ℕ) (r r' : Receiving) → slice_get rs k ≡ Some r
    → looks_of (slice_get (set rs k r') k) ≡ r'.looks
looks_here rs k r r' at = ap looks_of (set_here rs k r' (slice_get_within rs k r at))

looks_same : (rs : List Receiving) (k j : ℕ) (r r' : Receiving) → slice_get rs k ≡ Some r → r'.looks ≡ r.looks
    → looks_of (slice_get (set rs k r') j) ≡ looks_of (slice_get rs j)
looks_same rs k j r r' at same = elim (cases_eq j k) [
  | inl e ↦ subst (λ i. looks_of (slice_get (set rs k r') i) ≡ looks_of (slice_get rs i)) (sym e) (looks_here rs k r r' at
      ∙ same ∙ sym (ap looks_of at))
  | inr d ↦ looks_there rs k j r' d
]

-- a look in vain
pub kept_look : (s : Seated) (k : ℕ) (r r' : Receiving) → slice_get s.ends.recvs k ≡ Some r → r' ≡ with_look r
    → r.looks < 2 ^ 64 → HasKept s (record s { ends = with_recvs s.ends k r' }) k (k + 1)
kept_look s k r r' at is small = record {
  node = refl;
  looked = λ j l h none opened. subst (λ i. Rose (looks_in s i) (looks_of (slice_get (set s.ends.recvs k r') i)))
      (sym (one_place k j l h)) here;
  not_lower = λ j. elim (cases_eq j k) [
    | inl e ↦ subst (λ i. looks_in s i ≤ looks_of (slice_get (set s.ends.recvs k r') i)) (sym e)
        (let a = not_fallen r.looks small in omega (arith, a, was, now))
    | inr d ↦ let same = looks_there s.ends.recvs k j r' d in omega (arith, same)
  ];
  others = λ j away. record { front = refl; closed = refl; looks = looks_there s.ends.recvs k j r' (outside k j away) };
}
  where
    was : looks_in s k ≡ r.looks
    was = ap looks_of at

    now : looks_of (slice_get (set s.ends.recvs k r') k) ≡ one_more r.looks
    now = looks_here s.ends.recvs k r r' at ∙ ap (λ (x : Receiving). x.looks) is

    here : Rose (looks_in s k) (looks_of (slice_get (set s.ends.recvs k r') k))
    here = subst (λ a. Rose a (looks_of (slice_get (set s.ends.recvs k r') k))) (sym was) (subst (λ b. Rose r.looks b)
        (sym now) (rose r.looks))

-- a message was kept
pub kept_front : (s : Seated) (k : ℕ) (m : Message) (p : Shown) (r r' : Receiving) → slice_get s.ends.recvs k ≡ Some r
    → r'.looks ≡ r.looks → p ≡ record s.node { fronts = p.fronts; accepted = p.accepted }
    → p.fronts ≡ slice_set s.node.fronts k (Some m) → k < length s.node.fronts
    → HasKept s (record s { node = p; ends = with_recvs s.ends k r' }) k (k + 1)
kept_front s k m p r r' at same is fronts within = record {
  node = is;
  looked = λ j l h none opened.
      let there : slice_index_or p.fronts k None ≡ Some m = ap (λ (xs : List (Option Message)). slice_index_or xs k None)
      fronts ∙ get_or-set_same s.node.fronts k (Some m) None within in
      let gone : slice_index_or p.fronts k None ≡ None = subst (λ i. slice_index_or p.fronts i None ≡ None)
      (one_place k j l h) none in
      absurd (cc (there, gone));
  not_lower = λ j. let e = looks_same s.ends.recvs k j r r' at same in omega (arith, e);
  others = λ j away. record {
    front = ap (λ (xs : List (Option Message)). slice_index_or xs j None) fronts
        ∙ get_or-set_other s.node.fronts k j (Some m) None (outside k j away);
    closed = refl;
    looks = looks_same s.ends.recvs k j r r' at same;
  };
}

-- the wire was closed
pub kept_closed : (s : Seated) (k : ℕ) (r r' : Receiving) → slice_get s.ends.recvs k ≡ Some r → r'.looks ≡ r.looks
    → k < length s.closed → HasKept s (record s { ends = with_recvs s.ends k r'; closed = slice_set s.closed k true }) k (k + 1)
kept_closed s k r r' at same within = record {
  node = refl;
  looked = λ j l h none opened.
      let shut : slice_index_or (slice_set s.closed k true) k false ≡ true = get_or-set_same s.closed k true false within in
      let free : slice_index_or (slice_set s.closed k true) k false ≡ false = subst
      (λ i. slice_index_or (slice_set s.closed k true) i false ≡ false) (one_place k j l h) opened in
      absurd (cc (shut, free));
  not_lower = λ j. let e = looks_same s.ends.recvs k j r r' at same in omega (arith, e);
  others = λ j away. record {
    front = refl;
    closed = get_or-set_other s.closed k j true false (outside k j away);
    looks = looks_same s.ends.recvs k j r r' at same;
  };
}

-- ---- wires one after another

pub tried_none : (s : Seated) (k : ℕ) → HasTried s s k k
tried_none s k = record {
  kept = record {
    node = refl;
    looked = λ j l h none opened. absurd (omega arith);
    not_lower = λ j. omega arith;
    others = λ j away. record { front = refl; closed = refl; looks = refl };
  };
  late = λ j l h. absurd (omega arith);
}

both_nodes : (a b c : Shown) → b ≡ record a { fronts = b.fronts; accepted = b.accepted }
    → c ≡ record b { fronts = c.fronts; accepted = c.accepted } → c ≡ record a { fronts = c.fronts; accepted = c.accepted }
both_nodes a b c x y = y ∙ ap (λ (n : Shown). record n { fronts = c.fronts; accepted = c.accepted }) x

-- a wire that was touched in neither
untouched : (a b c : Seated) (k : ℕ) → IsUntouched a b k → IsUntouched b c k → IsUntouched a c k
untouched a b c k x y = record { front = y.front ∙ x.front; closed = y.closed ∙ x.closed; looks = y.looks ∙ x.looks }

rose_from : (a b a' b' : ℕ) → a' ≡ a → b' ≡ b → Rose a b → Rose a' b'
rose_from a b a' b' p q r = subst (λ x. Rose x b') (sym p) (subst (λ y. Rose a y) (sym q) r)

-- Two ranges of places that do not meet. Which places are in both together is told by `whole`.
kept_both : (a b c : Seated) (l1 h1 l2 h2 low high : ℕ) → HasKept a b l1 h1 → HasKept b c l2 h2 → (h1 ≤ l2) ⊎ (h2 ≤ l1)
    → ((k : ℕ) → low ≤ k → k < high → ((l1 ≤ k) × (k < h1)) ⊎ ((l2 ≤ k) × (k < h2)))
    → ((k : ℕ) → (k < low) ⊎ (high ≤ k) → ((k < l1) ⊎ (h1 ≤ k)) × ((k < l2) ⊎ (h2 ≤ k))) → HasKept a c low high
kept_both a b c l1 h1 l2 h2 low high x y apart whole away = record {
  node = both_nodes a.node b.node c.node x.node y.node;
  looked = λ k l h none opened. elim (whole k l h) [
    | inl in1 ↦
        let u = y.others k (beside k apart in1) in
        rose_from (looks_in a k) (looks_in b k) (looks_in a k) (looks_in c k) refl u.looks (x.looked k in1.0 in1.1
        (sym u.front ∙ none) (sym u.closed ∙ opened))
    | inr in2 ↦
        let u = x.others k (before k apart in2) in
        rose_from (looks_in b k) (looks_in c k) (looks_in a k) (looks_in c k) (sym u.looks) refl
        (y.looked k in2.0 in2.1 none opened)
  ];
  not_lower = λ k. let p = x.not_lower k in let q = y.not_lower k in omega (arith, p, q);
  others = λ k out. let w = away k out in untouched a b c k (x.others k w.0) (y.others k w.1);
}
  where
    beside : (k : ℕ) → (h1 ≤ l2) ⊎ (h2 ≤ l1) → (l1 ≤ k) × (k < h1) → (k < l2) ⊎ (h2 ≤ k)
    beside k (inl e) i = inl (omega (arith, e, i.1))
    beside k (inr e) i = inr (omega (arith, e, i.0))

    before : (k : ℕ) → (h1 ≤ l2) ⊎ (h2 ≤ l1) → (l2 ≤ k) × (k < h2) → (k < l1) ⊎ (h1 ≤ k)
    before k (inl e) i = inr (omega (arith, e, i.0))
    before k (inr e) i = inl (omega (arith, e, i.1))

late_both : (a b c : Seated) (l1 h1 l2 h2 low high : ℕ) → HasTried a b l1 h1 → HasTried b c l2 h2 → (h1 ≤ l2) ⊎ (h2 ≤ l1)
    → ((k : ℕ) → low ≤ k → k < high → ((l1 ≤ k) × (k < h1)) ⊎ ((l2 ≤ k) × (k < h2))) → (k : ℕ) → low ≤ k → k < high
    → is_early (front_in c k) ≡ false
late_both a b c l1 h1 l2 h2 low high x y apart whole k l h = elim (whole k l h) [
  | inl in1 ↦ ap (λ (o : Option Message). is_early o) (y.kept.others k (beside k apart in1)).front ∙ x.late k in1.0 in1.1
  | inr in2 ↦ y.late k in2.0 in2.1
]
  where
    beside : (k : ℕ) → (h1 ≤ l2) ⊎ (h2 ≤ l1) → (l1 ≤ k) × (k < h1) → (k < l2) ⊎ (h2 ≤ k)
    beside k (inl e) i = inl (omega (arith, e, i.1))
    beside k (inr e) i = inr (omega (arith, e, i.0))

-- the range of the second follows that of the first
pub tried_more : (a b c : Seated) (low mid high : ℕ) → low ≤ mid → mid ≤ high → HasTried a b low mid → HasTried b c mid high
    → HasTried a c low high
tried_more a b c low mid high p q x y = record {
  kept = kept_both a b c low mid mid high low high x.kept y.kept (inl (omega arith)) whole away;
  late = late_both a b c low mid mid high low high x y (inl (omega arith)) whole;
}
  where
    whole : (k : ℕ) → low ≤ k → k < high → ((low ≤ k) × (k < mid)) ⊎ ((mid ≤ k) × (k < high))
    whole k l h = elim (cases_lt k mid) [ inl e ↦ inl (l, e) | inr e ↦ inr (e, h) ]

    away : (k : ℕ) → (k < low) ⊎ (high ≤ k) → ((k < low) ⊎ (mid ≤ k)) × ((k < mid) ⊎ (high ≤ k))
    away k (inl e) = (inl e, inl (omega (arith, e, p)))
    away k (inr e) = (inr (omega (arith, e, q)), inr e)

-- the range of the second comes before that of the first
pub tried_around : (a b c : Seated) (mid high : ℕ) → mid ≤ high → HasTried a b mid high → HasTried b c 0 mid
    → HasTried a c 0 high
tried_around a b c mid high q x y = record {
  kept = kept_both a b c mid high 0 mid 0 high x.kept y.kept (inr (omega arith)) whole away;
  late = late_both a b c mid high 0 mid 0 high x y (inr (omega arith)) whole;
}
  where
    whole : (k : ℕ) → 0 ≤ k → k < high → ((mid ≤ k) × (k < high)) ⊎ ((0 ≤ k) × (k < mid))
    whole k l h = elim (cases_lt k mid) [ inl e ↦ inr (l, e) | inr e ↦ inl (e, h) ]

    away : (k : ℕ) → (k < 0) ⊎ (high ≤ k) → ((k < mid) ⊎ (high ≤ k)) × ((k < 0) ⊎ (mid ≤ k))
    away k (inl e) = (inl (omega (arith, e)), inl e)
    away k (inr e) = (inr e, inr (omega (arith, e, q)))
