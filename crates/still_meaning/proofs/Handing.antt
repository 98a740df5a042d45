-- A message goes from its sender to its receiver, or to the row between them, and from the row to the receiver.
use Rattle.std.proofs.Common.{◌≡◌, ◌∙◌, ◌≢◌, ℕ, suc, ◌+◌, ◌<◌, Bool, true, false, ◌&&◌, nat_eq, List, [], ◌∷◌, ◌++◌, Option}
use Rattle.std.proofs.Common.{Some, None, length, refl, ap, sym, subst, arith, inl, inr, append_assoc, append-nil}
use Rattle.std.specs.Prelude.{option_to_list, slice_get, slice_set}
use Rattle.std.specs.List.{slice_index_or}
use Rattle.std.proofs.lemmas.Bool.{cases_eq}
use Rattle.std.proofs.lemmas.List.{get_or-set_other, get_or-set_same}
use Rattle.std.proofs.lemmas.List.Elements.{filter-append}
use Rattle.tw_base.specs.declared.message.Chan.{Chan}
use Rattle.tw_base.specs.declared.message.Chan.TheVariants.{Zero, One}
use Rattle.tw_base.specs.declared.message.Message.{Message}
use Rattle.dsm_runs.specs.Laws.{IsNumbered}
use Rattle.dsm_runs.specs.Messages.{chan_eq, numbered, on_wire, place}
use Rattle.dsm_runs.specs.Replays.{begin}
use Rattle.dsm_runs.specs.Worlds.{World}
use Rattle.dsm_runs.proofs.Besides.{log_alone}
use Rattle.dsm_runs.proofs.Lists.{and_left, and_right, chan_eq-true, chan_eq_refl, nat_eq_refl}
use Rattle.dsm_runs.proofs.Stamps.{is_numbered}
use Rattle.dsm_runs.proofs.Turns.{nat_eq_other}
use Rattle.std.proofs.lemmas.Bool.{eqb-true}
use Rattle.node_meaning.specs.Nodes.{Shown, accepted_at, front_at, onto, tally_of}
use Rattle.node_meaning.specs.Tallies.{Counts, first_tally}
use Rattle.still_meaning.specs.Laws.{holding}
use Rattle.still_meaning.specs.Stills.{IsNodeAt, IsStill, StillShown, flight, front_of, row_at, unpushed}

from_sender : (f t k : ℕ) (c : Chan) (m : Message) → m.from ≡ k → f ≢ k → onto f t c (m ∷ []) ≡ []
from_sender f t k c m from d = let away : nat_eq m.from f ≡ false = nat_eq_other m.from f (λ q. d (sym q ∙ from)) in rw away refl

-- the message that waited longest is taken out of node k
pub popped : (a b : StillShown) (k : ℕ) (old new : Shown) (m : Message) → slice_get a.nodes k ≡ Some old →
    slice_get b.nodes k ≡ Some new → ((i : ℕ) → i ≢ k → slice_get b.nodes i ≡ slice_get a.nodes i) → b.rows ≡ a.rows
    → old.waiting ≡ m ∷ new.waiting → new.fronts ≡ old.fronts → m.from ≡ k → (f t : ℕ) (c : Chan) →
    holding b m f t c ≡ flight a f t c
popped a b k old new m there here away rows waits fronts from f t c =
    let front : front_of (slice_get b.nodes t) f c ≡ front_of (slice_get a.nodes t) f c = elim (cases_eq t k) [
      | inl q ↦ rw (q, here, there) (ap (λ (xs : List (Option Message)). option_to_list (slice_index_or xs (place f c) None))
          fronts)
      | inr d ↦ ap (λ (o : Option Shown). front_of o f c) (away t d)
    ] in
    let row : row_at b f t c ≡ row_at a f t c =
    ap (λ (rs : List (List (List Message))). slice_index_or (slice_index_or rs f []) (place t c) []) rows in
    let wait : onto f t c (m ∷ []) ++ unpushed (slice_get b.nodes f) f t c ≡ unpushed (slice_get a.nodes f) f t c =
    elim (cases_eq f k) [
      | inl q ↦ rw (q, here, there) (sym (filter-append (on_wire k t c) (m ∷ []) new.waiting)
          ∙ ap (λ (ms : List Message). onto k t c ms) (sym waits))
      | inr d ↦ rw (from_sender f t k c m from d) (ap (λ (o : Option Shown). unpushed o f t c) (away f d))
    ] in
    ap (λ (ms : List Message). ms ++ (row_at b f t c ++ (onto f t c (m ∷ []) ++ unpushed (slice_get b.nodes f) f t c))) front
    ∙ ap (λ (ms : List Message). front_of (slice_get a.nodes t) f c
    ++ (ms ++ (onto f t c (m ∷ []) ++ unpushed (slice_get b.nodes f) f t c))) row
    ∙ ap (λ (ms : List Message). front_of (slice_get a.nodes t) f c ++ (row_at a f t c ++ ms)) wait

-- the message in hand goes to the end of its row
pub put_behind : (a b : StillShown) (m : Message) → b.nodes ≡ a.nodes →
    ((f t : ℕ) (c : Chan) → row_at b f t c ≡ row_at a f t c ++ onto f t c (m ∷ [])) → (f t : ℕ) (c : Chan) →
    flight b f t c ≡ holding a m f t c
put_behind a b m nodes rows f t c =
    let first : List Message = front_of (slice_get a.nodes t) f c in
    let wait : List Message = unpushed (slice_get a.nodes f) f t c in
    ap (λ (ns : List Shown). front_of (slice_get ns t) f c ++ (row_at b f t c ++ unpushed (slice_get ns f) f t c)) nodes
    ∙ ap (λ (ms : List Message). first ++ (ms ++ wait)) (rows f t c)
    ∙ ap (λ (ms : List Message). first ++ ms) (append_assoc (row_at a f t c) (onto f t c (m ∷ [])) wait)

-- the message in hand goes to its receiver, where nothing of its wire was handed over before
pub put_first : (a b : StillShown) (m : Message) → b.rows ≡ a.rows →
    ((f t : ℕ) (c : Chan) → unpushed (slice_get b.nodes f) f t c ≡ unpushed (slice_get a.nodes f) f t c)
    → ((f t : ℕ) (c : Chan) → front_of (slice_get b.nodes t) f c ++ row_at a f t c ≡ front_of (slice_get a.nodes t) f c
    ++ (row_at a f t c ++ onto f t c (m ∷ []))) → (f t : ℕ) (c : Chan) → flight b f t c ≡ holding a m f t c
put_first a b m rows waits fronts f t c =
    let wait : List Message = unpushed (slice_get a.nodes f) f t c in
    let row : row_at b f t c ≡ row_at a f t c =
    ap (λ (rs : List (List (List Message))). slice_index_or (slice_index_or rs f []) (place t c) []) rows in
    ap (λ (ms : List Message). front_of (slice_get b.nodes t) f c ++ (ms ++ unpushed (slice_get b.nodes f) f t c)) row
    ∙ ap (λ (ms : List Message). front_of (slice_get b.nodes t) f c ++ (row_at a f t c ++ ms)) (waits f t c)
    ∙ sym (append_assoc (front_of (slice_get b.nodes t) f c) (row_at a f t c) wait)
    ∙ ap (λ (ms : List Message). ms ++ wait) (fronts f t c)
    ∙ append_assoc (front_of (slice_get a.nodes t) f c) (row_at a f t c ++ onto f t c (m ∷ [])) wait
    ∙ ap (λ (ms : List Message). front_of (slice_get a.nodes t) f c ++ ms)
    (append_assoc (row_at a f t c) (onto f t c (m ∷ [])) wait)

-- the first of a row goes to the receiver, which keeps no message of the wire
pub refilled : (a b : StillShown) → ((f t : ℕ) (c : Chan) → unpushed (slice_get b.nodes f) f t c
    ≡ unpushed (slice_get a.nodes f) f t c)
    → ((f t : ℕ) (c : Chan) → front_of (slice_get b.nodes t) f c ++ row_at b f t c ≡ front_of (slice_get a.nodes t) f c
    ++ row_at a f t c) → (f t : ℕ) (c : Chan) → flight b f t c ≡ flight a f t c
refilled a b waits both f t c =
    let wait : List Message = unpushed (slice_get a.nodes f) f t c in
    ap (λ (ms : List Message). front_of (slice_get b.nodes t) f c ++ (row_at b f t c ++ ms)) (waits f t c)
    ∙ sym (append_assoc (front_of (slice_get b.nodes t) f c) (row_at b f t c) wait)
    ∙ ap (λ (ms : List Message). ms ++ wait) (both f t c)
    ∙ append_assoc (front_of (slice_get a.nodes t) f c) (row_at a f t c) wait

-- ---- places

pub place_one : (t k : ℕ) (c d : Chan) → place t c ≡ place k d → (t ≡ k) × (c ≡ d)
place_one t k Zero Zero h = (omega arith, refl)
place_one t k One One h = (omega arith, refl)
place_one t k Zero One h = absurd (omega arith)
place_one t k One Zero h = absurd (omega arith)

pub on_it : (f t : ℕ) (c : Chan) (m : Message) → on_wire f t c m ≡ true → (m.from ≡ f) × (m.to ≡ t) × (m.chan ≡ c)
on_it f t c m h =
    let both : (nat_eq m.from f && nat_eq m.to t) ≡ true = and_left (nat_eq m.from f && nat_eq m.to t) (chan_eq m.chan c) h in (
      eqb-true m.from f (and_left (nat_eq m.from f) (nat_eq m.to t) both),
      eqb-true m.to t (and_right (nat_eq m.from f) (nat_eq m.to t) both),
      chan_eq-true m.chan c (and_right (nat_eq m.from f && nat_eq m.to t) (chan_eq m.chan c) h),
    )

pub off_it : (f t : ℕ) (c : Chan) (m : Message) → on_wire f t c m ≡ false → ((m.from ≡ f) × (m.to ≡ t) × (m.chan ≡ c)) → ⊥
off_it f t c m h same =
    let yes : on_wire m.from m.to m.chan m ≡ true = rw (nat_eq_refl m.from, nat_eq_refl m.to, chan_eq_refl m.chan) refl in
    let no : on_wire m.from m.to m.chan m ≡ false = ap (λ k. on_wire k m.to m.chan m) same.0
    ∙ ap (λ k. on_wire f k m.chan m) same.1 ∙ ap (λ (d : Chan). on_wire f t d m) same.2 ∙ h in
    absurd (cc (yes, no))

-- a row with one message more
pub row_put : (rows : List (List (List Message))) (m : Message) → m.from < length rows →
    place m.to m.chan < length (slice_index_or rows m.from []) → (f t : ℕ) (c : Chan)
    → slice_index_or
    (slice_index_or (slice_set rows m.from (slice_set (slice_index_or rows m.from []) (place m.to m.chan)
    (slice_index_or (slice_index_or rows m.from []) (place m.to m.chan) [] ++ m ∷ []))) f []) (place t c) []
    ≡ slice_index_or (slice_index_or rows f []) (place t c) [] ++ onto f t c (m ∷ [])
row_put rows m at within f t c = go (on_wire f t c m) refl
  where
    row : List (List Message)
    row = slice_index_or rows m.from []

    spot : ℕ
    spot = place m.to m.chan

    next : List (List Message)
    next = slice_set row spot (slice_index_or row spot [] ++ m ∷ [])

    mine : (t2 : ℕ) (c2 : Chan) → slice_index_or (slice_index_or (slice_set rows m.from next) m.from []) (place t2 c2) []
        ≡ slice_index_or next (place t2 c2) []
    mine t2 c2 = ap (λ (r : List (List Message)). slice_index_or r (place t2 c2) []) (get_or-set_same rows m.from next [] at)

    same : slice_index_or (slice_index_or (slice_set rows m.from next) m.from []) (place m.to m.chan) []
        ≡ slice_index_or row (place m.to m.chan) [] ++ onto m.from m.to m.chan (m ∷ [])
    same = mine m.to m.chan ∙ get_or-set_same row spot (slice_index_or row spot [] ++ m ∷ []) [] within
        ∙ ap (λ (ms : List Message). slice_index_or row spot [] ++ ms)
        (sym (rw (nat_eq_refl m.from, nat_eq_refl m.to, chan_eq_refl m.chan) refl))

    other : on_wire f t c m ≡ false → slice_index_or (slice_index_or (slice_set rows m.from next) f []) (place t c) []
        ≡ slice_index_or (slice_index_or rows f []) (place t c) []
    other off = elim (cases_eq f m.from) [
      | inr d ↦ ap (λ (r : List (List Message)). slice_index_or r (place t c) []) (get_or-set_other rows m.from f next [] d)
      | inl q ↦ elim (cases_eq (place t c) spot) [
        | inl p ↦ absurd (off_it f t c m off (sym q, sym (place_one t m.to c m.chan p).0, sym (place_one t m.to c m.chan p).1))
        | inr d ↦ subst (λ k. slice_index_or (slice_index_or (slice_set rows m.from next) k []) (place t c) []
            ≡ slice_index_or (slice_index_or rows k []) (place t c) []) (sym q)
            (mine t c ∙ get_or-set_other row spot (place t c) (slice_index_or row spot [] ++ m ∷ []) [] d)
      ]
    ]

    go : (b : Bool) → on_wire f t c m ≡ b
        → slice_index_or (slice_index_or (slice_set rows m.from next) f []) (place t c) []
        ≡ slice_index_or (slice_index_or rows f []) (place t c) [] ++ onto f t c (m ∷ [])
    go true h =
        let w = on_it f t c m h in
        subst (λ k. slice_index_or (slice_index_or (slice_set rows m.from next) k []) (place t c) []
        ≡ slice_index_or (slice_index_or rows k []) (place t c) [] ++ onto k t c (m ∷ [])) w.0
        (subst (λ k. slice_index_or (slice_index_or (slice_set rows m.from next) m.from []) (place k c) []
        ≡ slice_index_or row (place k c) [] ++ onto m.from k c (m ∷ [])) w.1
        (subst (λ (d : Chan). slice_index_or (slice_index_or (slice_set rows m.from next) m.from []) (place m.to d) []
        ≡ slice_index_or row (place m.to d) [] ++ onto m.from m.to d (m ∷ [])) w.2 same))
    go false h = other h ∙ sym (append-nil (slice_index_or (slice_index_or rows f []) (place t c) []))
        ∙ ap (λ (ms : List Message). slice_index_or (slice_index_or rows f []) (place t c) [] ++ ms) (sym (rw h refl))

-- The receiver keeps a message of a wire of which it kept none and whose row is empty.
pub kept_fronts : (a b : StillShown) (m : Message) (old new : Shown) → slice_get a.nodes m.to ≡ Some old →
    slice_get b.nodes m.to ≡ Some new → ((k : ℕ) → k ≢ m.to → slice_get b.nodes k ≡ slice_get a.nodes k)
    → new.fronts ≡ slice_set old.fronts (place m.from m.chan) (Some m) → place m.from m.chan < length old.fronts →
    front_at old m.from m.chan ≡ None → row_at a m.from m.to m.chan ≡ [] → (f t : ℕ) (c : Chan)
    → front_of (slice_get b.nodes t) f c ++ row_at a f t c ≡ front_of (slice_get a.nodes t) f c
    ++ (row_at a f t c ++ onto f t c (m ∷ []))
kept_fronts a b m old new there here away fronts within free empty f t c = go (on_wire f t c m) refl
  where
    spot : ℕ
    spot = place m.from m.chan

    new_front : front_at new m.from m.chan ≡ Some m
    new_front = ap (λ (xs : List (Option Message)). slice_index_or xs spot None) fronts
        ∙ get_or-set_same old.fronts spot (Some m) None within

    same : front_of (slice_get b.nodes m.to) m.from m.chan ++ row_at a m.from m.to m.chan
        ≡ front_of (slice_get a.nodes m.to) m.from m.chan ++ (row_at a m.from m.to m.chan ++ onto m.from m.to m.chan (m ∷ []))
    same = rw (here, there, new_front, free, empty, nat_eq_refl m.from, nat_eq_refl m.to, chan_eq_refl m.chan) refl

    front_same : on_wire f t c m ≡ false → front_of (slice_get b.nodes t) f c ≡ front_of (slice_get a.nodes t) f c
    front_same off = elim (cases_eq t m.to) [
      | inr d ↦ ap (λ (o : Option Shown). front_of o f c) (away t d)
      | inl q ↦ elim (cases_eq (place f c) spot) [
        | inl p ↦ absurd
            (off_it f t c m off (sym (place_one f m.from c m.chan p).0, sym q, sym (place_one f m.from c m.chan p).1))
        | inr d ↦ ap (λ k. front_of (slice_get b.nodes k) f c) q
            ∙ ap (λ (o : Option Shown). front_of o f c) here
            ∙ ap (λ (xs : List (Option Message)). option_to_list (slice_index_or xs (place f c) None)) fronts
            ∙ ap (λ (o : Option Message). option_to_list o) (get_or-set_other old.fronts spot (place f c) (Some m) None d)
            ∙ sym (ap (λ (o : Option Shown). front_of o f c) there)
            ∙ sym (ap (λ k. front_of (slice_get a.nodes k) f c) q)
      ]
    ]

    go : (x : Bool) → on_wire f t c m ≡ x → front_of (slice_get b.nodes t) f c ++ row_at a f t c
        ≡ front_of (slice_get a.nodes t) f c ++ (row_at a f t c ++ onto f t c (m ∷ []))
    go true h =
        let w = on_it f t c m h in
        subst (λ k. front_of (slice_get b.nodes t) k c ++ row_at a k t c ≡ front_of (slice_get a.nodes t) k c
        ++ (row_at a k t c ++ onto k t c (m ∷ []))) w.0
        (subst (λ k. front_of (slice_get b.nodes k) m.from c ++ row_at a m.from k c ≡ front_of (slice_get a.nodes k) m.from c
        ++ (row_at a m.from k c ++ onto m.from k c (m ∷ []))) w.1
        (subst (λ (d : Chan). front_of (slice_get b.nodes m.to) m.from d ++ row_at a m.from m.to d
        ≡ front_of (slice_get a.nodes m.to) m.from d ++ (row_at a m.from m.to d ++ onto m.from m.to d (m ∷ []))) w.2 same))
    go false h =
        ap (λ (ms : List Message). ms ++ row_at a f t c) (front_same h)
        ∙ ap (λ (ms : List Message). front_of (slice_get a.nodes t) f c ++ ms)
        (sym (append-nil (row_at a f t c)) ∙ ap (λ (ms : List Message). row_at a f t c ++ ms) (sym (rw h refl)))

-- ---- the number of the next message

number_at : (k : ℕ) (xs ys : List Message) (m : Message) → xs ++ m ∷ ys ≡ numbered k (xs ++ m ∷ ys) → m.number ≡ k + length xs
number_at k [] ys m h = let e : m.number ≡ k = ap (λ (l : List Message). number_of l k) h in omega (arith, e)
  where
    number_of : List Message → ℕ → ℕ
    number_of [] d = d
    number_of (x ∷ rest) d = x.number
number_at k (x ∷ xs) ys m h = let rest = number_at (suc k) xs ys m (ap (λ (l : List Message). tail_of l) h) in omega (arith, rest)
  where
    tail_of : List Message → List Message
    tail_of [] = []
    tail_of (x ∷ rest) = rest

-- The first of what is on the way to node t, where it keeps no message of the wire, has the number that it accepts next.
pub next_number : (a : StillShown) (g : World) (s : IsStill a g) (f t : ℕ) (c : Chan) (sender receiver : Shown) (m : Message)
    (rest : List Message) → slice_get a.nodes f ≡ Some sender → slice_get a.nodes t ≡ Some receiver
    → f < a.setup.shape.nodes → t < a.setup.shape.nodes → front_at receiver f c ≡ None → flight a f t c ≡ m ∷ rest →
    m.number ≡ accepted_at receiver f c
next_number a g s f t c sender receiver m rest there here lf lt free first =
    let x : IsNodeAt a f sender (s.ends f) = s.nodes f sender there in
    let y : IsNodeAt a t receiver (s.ends t) = s.nodes t receiver here in
    let sent : List Message = (s.ends f).sent t c in
    let took : List Message = (s.ends t).took f c in
    let parts : sent ≡ took ++ m ∷ rest = s.agrees f t c lf lt ∙ ap (λ (ms : List Message). took ++ ms) first in
    let numbers : IsNumbered sent = is_numbered sender.setup sender.me sender.log (s.ends f)
    (log_alone (Counts sender.setup sender.code) sender.setup sender.me sender.log (begin sender.setup sender.me)
    (s.ends f) (first_tally sender.setup sender.me) (tally_of sender) x.stands.replays) t c in
    let at : m.number ≡ 0 + length took = number_at 0 took rest m
    (subst (λ (ms : List Message). ms ≡ numbered 0 ms) parts numbers) in
    let counts : length took + 0 ≡ accepted_at receiver f c =
    subst (λ (o : Option Message). length took + length (option_to_list o) ≡ accepted_at receiver f c) free
    (y.stands.took f c) in
    omega (arith, at, counts)
