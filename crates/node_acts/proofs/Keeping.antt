-- A message is kept as the front of its wire, or handed out: the node stands for the courses that it stood for.
use Rattle.std.proofs.Common.{◌≡◌, ◌∙◌, ℕ, ◌+◌, ◌<◌, ◌≤◌, List, ◌∷◌, ◌++◌, Option, Some, None, length, get_or, set, refl, ap}
use Rattle.std.proofs.Common.{sym, subst, inl, inr, arith}
use Rattle.std.specs.Prelude.{option_to_list, slice_set}
use Rattle.std.proofs.Math.ListN.{length-set}
use Rattle.std.proofs.lemmas.Bool.{cases_eq}
use Rattle.std.proofs.lemmas.List.{get_or-set_same, get_or-set_other}
use Rattle.tw_base.specs.Lists.{Each}
use Rattle.tw_base.specs.declared.message.Chan.{Chan}
use Rattle.tw_base.specs.declared.message.Chan.TheVariants.{Zero, One}
use Rattle.tw_base.specs.declared.message.Message.{Message}
use Rattle.dsm_runs.specs.Messages.{place}
use Rattle.node_meaning.specs.Nodes.{Shown, accepted_at, front_at}
use Rattle.node_meaning.specs.Stands.{IsFit, IsFront, IsWell, StandsAsBefore}

-- a place is of one wire
pub place_one : (f g : ℕ) (c d : Chan) → place f c ≡ place g d → (f ≡ g) × (c ≡ d)
place_one f g Zero Zero e = (omega arith, refl)
place_one f g One One e = (omega arith, refl)
place_one f g Zero One e = absurd (omega arith)
place_one f g One Zero e = absurd (omega arith)

-- ---- a message is kept

abbrev pub with_front : Shown → Message → Shown
with_front n m = record n {
  fronts = slice_set n.fronts (place m.from m.chan) (Some m);
  accepted = slice_set n.accepted (place m.from m.chan) (m.number + 1);
}

-- what is at a place afterwards
there : (xs : List (Option Message)) (k x : ℕ) (m : Message) → k < length xs → x ≡ k
    → get_or (set xs k (Some m)) x None ≡ Some m
there xs k x m lt e = ap (λ j. get_or (set xs k (Some m)) j None) e ∙ get_or-set_same xs k (Some m) None lt

there_count : (xs : List ℕ) (k x n : ℕ) → k < length xs → x ≡ k → get_or (set xs k n) x 0 ≡ n
there_count xs k x n lt e = ap (λ j. get_or (set xs k n) j 0) e ∙ get_or-set_same xs k n 0 lt

took_more : (xs : List (Option Message)) (counts : List ℕ) (k x took : ℕ) (m : Message) → k < length xs → k < length counts
    → get_or xs k None ≡ None → m.number ≡ get_or counts k 0
    → took + length (option_to_list (get_or xs x None)) ≡ get_or counts x 0
    → took + length (option_to_list (get_or (set xs k (Some m)) x None)) ≡ get_or (set counts k (m.number + 1)) x 0
took_more xs counts k x took m lt lt2 free number h = elim (cases_eq x k) [
  | inl e ↦
      let was : get_or xs x None ≡ None = ap (λ j. get_or xs j None) e ∙ free in
      let before : took + 0 ≡ get_or counts x 0 = subst
      (λ (o : Option Message). took + length (option_to_list o) ≡ get_or counts x 0) was h in
      let count : get_or counts x 0 ≡ m.number = ap (λ j. get_or counts j 0) e ∙ sym number in
      rw (there xs k x m lt e, there_count counts k x (m.number + 1) lt2 e) (omega (arith, before, count))
  | inr d ↦ rw (get_or-set_other xs k x (Some m) None d, get_or-set_other counts k x (m.number + 1) 0 d) h
]

few_more : (xs : List (Option Message)) (counts : List ℕ) (k x handled : ℕ) (m : Message) → k < length xs → k < length counts
    → get_or xs k None ≡ None → m.number ≡ get_or counts k 0
    → get_or counts x 0 ≤ handled + length (option_to_list (get_or xs x None))
    → get_or (set counts k (m.number + 1)) x 0 ≤ handled + length (option_to_list (get_or (set xs k (Some m)) x None))
few_more xs counts k x handled m lt lt2 free number h = elim (cases_eq x k) [
  | inl e ↦
      let was : get_or xs x None ≡ None = ap (λ j. get_or xs j None) e ∙ free in
      let before : get_or counts x 0 ≤ handled + 0 = subst
      (λ (o : Option Message). get_or counts x 0 ≤ handled + length (option_to_list o)) was h in
      let count : get_or counts x 0 ≡ m.number = ap (λ j. get_or counts j 0) e ∙ sym number in
      rw (there xs k x m lt e, there_count counts k x (m.number + 1) lt2 e) (omega (arith, before, count))
  | inr d ↦ rw (get_or-set_other xs k x (Some m) None d, get_or-set_other counts k x (m.number + 1) 0 d) h
]

some_one : (x y : Message) → Some x ≡ Some y → x ≡ y
some_one x y e = cc

front_kept : (n : Shown) (m : Message) → IsWell n → place m.from m.chan < 16 → IsFit n.setup m.from n.me m
    → (f : ℕ) (ch : Chan) (x : Message) → front_at (with_front n m) f ch ≡ Some x → IsFront (with_front n m) f ch x
front_kept n m w small fit f ch x e = elim (cases_eq (place f ch) k) [
  | inl same ↦
      let wire : (f ≡ m.from) × (ch ≡ m.chan) = place_one f m.from ch m.chan same in
      let is : m ≡ x = some_one m x (sym (there n.fronts k (place f ch) m fronts_lt same) ∙ e) in
      subst (λ (y : Message). IsFront (with_front n m) f ch y) is (record {
        fit = subst (λ g. IsFit n.setup g n.me m) (sym wire.0) fit;
        chan = sym wire.1;
        number = sym (there_count n.accepted k (place f ch) (m.number + 1) counts_lt same);
      })
  | inr d ↦
      let was = w.fronts f ch x (sym (get_or-set_other n.fronts k (place f ch) (Some m) None d) ∙ e) in
      record {
        fit = was.fit;
        chan = was.chan;
        number = was.number ∙ sym (get_or-set_other n.accepted k (place f ch) (m.number + 1) 0 d);
      }
]
  where
    k : ℕ
    k = place m.from m.chan

    fronts_lt : k < length n.fronts
    fronts_lt = omega (arith, small, w.all_fronts)

    counts_lt : k < length n.accepted
    counts_lt = omega (arith, small, w.all_accepted)

pub keeps_well : (n : Shown) (m : Message) → IsWell n → place m.from m.chan < 16 → front_at n m.from m.chan ≡ None
    → IsFit n.setup m.from n.me m → m.number ≡ accepted_at n m.from m.chan → IsWell (with_front n m)
keeps_well n m w small free fit number = record {
  setup = w.setup;
  code = w.code;
  short = w.short;
  at_node = w.at_node;
  copies = w.copies;
  shape = w.shape;
  cells = w.cells;
  chains = w.chains;
  within = w.within;
  all_fronts = length-set n.fronts (place m.from m.chan) (Some m) ∙ w.all_fronts;
  all_accepted = length-set n.accepted (place m.from m.chan) (m.number + 1) ∙ w.all_accepted;
  all_posted = w.all_posted;
  fronts = front_kept n m w small fit;
  waiting = w.waiting;
  deferred = w.deferred;
  few_sent = w.few_sent;
  few_posted = w.few_posted;
  few_accepted = λ f ch. few_more n.fronts n.accepted (place m.from m.chan) (place f ch) n.parts.handled m
      (omega (arith, small, w.all_fronts)) (omega (arith, small, w.all_accepted)) free number (w.few_accepted f ch);
}

pub keeps_standing : (n : Shown) (m : Message) → IsWell n → place m.from m.chan < 16 → front_at n m.from m.chan ≡ None
    → m.number ≡ accepted_at n m.from m.chan → StandsAsBefore n (with_front n m)
keeps_standing n m w small free number = λ c s. record {
  replays = s.replays;
  parts = s.parts;
  blocks = s.blocks;
  sound = s.sound;
  took = λ f ch. took_more n.fronts n.accepted (place m.from m.chan) (place f ch) (length (c.took f ch)) m
      (omega (arith, small, w.all_fronts)) (omega (arith, small, w.all_accepted)) free number (s.took f ch);
  sent = s.sent;
  fit = s.fit;
}

-- ---- a message is handed out

abbrev pub with_waiting : Shown → List Message → Shown
with_waiting n ms = record n { waiting = ms }

behind : (P : Message → Type 0) (o : Option Message) (all rest : List Message) → all ≡ option_to_list o ++ rest → Each P all
    → Each P rest
behind P None all rest e h = subst (Each P) e h
behind P (Some x) all rest e h = (subst (Each P) e h).1

pub hands_out_well : (n : Shown) (o : Option Message) (ms : List Message) → n.waiting ≡ option_to_list o ++ ms → IsWell n
    → IsWell (with_waiting n ms)
hands_out_well n o ms e w = record {
  setup = w.setup;
  code = w.code;
  short = w.short;
  at_node = w.at_node;
  copies = w.copies;
  shape = w.shape;
  cells = w.cells;
  chains = w.chains;
  within = w.within;
  all_fronts = w.all_fronts;
  all_accepted = w.all_accepted;
  all_posted = w.all_posted;
  fronts = λ f ch m h. let x = w.fronts f ch m h in record { fit = x.fit; chan = x.chan; number = x.number };
  waiting = behind (λ m. IsFit n.setup n.me m.to m) o n.waiting ms e w.waiting;
  deferred = w.deferred;
  few_sent = w.few_sent;
  few_posted = w.few_posted;
  few_accepted = w.few_accepted;
}

pub hands_out_standing : (n : Shown) (ms : List Message) → StandsAsBefore n (with_waiting n ms)
hands_out_standing n ms = λ c s. record {
  replays = s.replays;
  parts = s.parts;
  blocks = s.blocks;
  sound = s.sound;
  took = s.took;
  sent = s.sent;
  fit = s.fit;
}

pub first_is_fit : (n : Shown) (o : Option Message) (ms : List Message) (m : Message) → n.waiting ≡ option_to_list o ++ ms
    → IsWell n → o ≡ Some m → IsFit n.setup n.me m.to m
first_is_fit n o ms m e w is =
    let all : n.waiting ≡ m ∷ ms = e ∙ ap (λ (p : Option Message). option_to_list p ++ ms) is in
    (subst (Each (λ x. IsFit n.setup n.me x.to x)) all w.waiting).0
