-- A message is taken out of a node, kept by a node, or put into a row.
use Rattle.std.proofs.Common.{◌≡◌, ◌∙◌, ◌≢◌, ℕ, ◌<◌, Bool, true, false, List, [], ◌∷◌, ◌++◌, Option, Some, None, length, refl}
use Rattle.std.proofs.Common.{ap, sym, subst, arith, inl, inr, append-nil}
use Rattle.std.specs.Prelude.{option_to_list, slice_get, slice_set}
use Rattle.std.specs.List.{slice_index_or}
use Rattle.std.proofs.lemmas.Bool.{cases_eq}
use Rattle.std.proofs.lemmas.List.{get_or-set_other, get_or-set_same, length-set}
use Rattle.std.proofs.lemmas.Option.{same_Some, slice_get_within}
use Rattle.tw_base.specs.Lists.{Each}
use Rattle.tw_base.specs.declared.message.Chan.{Chan}
use Rattle.tw_base.specs.declared.message.Chan.TheVariants.{Zero, One}
use Rattle.tw_base.specs.declared.message.Message.{Message}
use Rattle.dsm_runs.specs.Messages.{on_wire, place}
use Rattle.dsm_runs.proofs.Lists.{chan_eq_refl, nat_eq_refl}
use Rattle.node_meaning.specs.Nodes.{Shown, front_at, onto, tally_of}
use Rattle.node_meaning.specs.Stands.{StandsAsBefore}
use Rattle.still_meaning.proofs.Handing.{off_it, on_it, place_one}
use Rattle.still_meaning.proofs.Passing.{set_here, set_other}
use Rattle.still_meaning.specs.Stills.{IsAsBefore, StillShown, front_of, unpushed}
use Rattle.still_nodes.specs.Parts.{Rows}
use Rattle.still_nodes.proofs.Lists.{each_get, each_set, set_as}
use Rattle.still_nodes.specs.Handing.{Accepts, Pops, queue_at, waiting_of, with_queue}

-- ---- wires

pub on_its_own : (m : Message) → on_wire m.from m.to m.chan m ≡ true
on_its_own m = rw (nat_eq_refl m.from, nat_eq_refl m.to, chan_eq_refl m.chan) refl

-- what is there of one message
pub onto_one : (f t : ℕ) (c : Chan) (m : Message) → on_wire f t c m ≡ true → onto f t c (m ∷ []) ≡ m ∷ []
onto_one f t c m h = rw h refl

pub onto_none : (f t : ℕ) (c : Chan) (m : Message) → on_wire f t c m ≡ false → onto f t c (m ∷ []) ≡ []
onto_none f t c m h = rw h refl

pub onto_more : (f t : ℕ) (c : Chan) (m : Message) (ms : List Message) → on_wire f t c m ≡ true →
    onto f t c (m ∷ ms) ≡ m ∷ onto f t c ms
onto_more f t c m ms h = rw h refl

-- ---- options

pub unpushed_is : (o : Option Shown) (f t : ℕ) (c : Chan) → unpushed o f t c ≡ onto f t c (waiting_of o)
unpushed_is None f t c = refl
unpushed_is (Some n) f t c = refl

pub no_front : (o : Option Message) → option_to_list o ≡ [] → o ≡ None
no_front None h = refl
no_front (Some m) h = absurd cc

-- ---- one node of them changes

pub get_here : (a b : List Shown) (k : ℕ) (old new : Shown) → slice_get a k ≡ Some old → b ≡ slice_set a k new →
    slice_get b k ≡ Some new
get_here a b k old new there now =
    ap (λ (ns : List Shown). slice_get ns k) now ∙ set_here a k new (slice_get_within a k old there)

pub get_other : (a b : List Shown) (k i : ℕ) (new : Shown) → b ≡ slice_set a k new → i ≢ k → slice_get b i ≡ slice_get a i
get_other a b k i new now d = ap (λ (ns : List Shown). slice_get ns i) now ∙ set_other a k i new d

pub count_same : (a b : List Shown) (k : ℕ) (new : Shown) → b ≡ slice_set a k new → length b ≡ length a
count_same a b k new now = ap (λ (ns : List Shown). length ns) now ∙ length-set a k new

abbrev pub NodesStay : StillShown → StillShown → Type 0
NodesStay a b = (i : ℕ) (n : Shown) → slice_get b.nodes i ≡ Some n → IsAsBefore a i n

pub nodes_more : (a b c : StillShown) → NodesStay a b → NodesStay b c → NodesStay a c
nodes_more a b c p q = λ i n there.
    let y = q i n there in
    let x = p i y.old y.there in
    record {
      old = x.old;
      there = x.there;
      setup = y.setup ∙ x.setup;
      code = y.code ∙ x.code;
      me = y.me ∙ x.me;
      tally = y.tally
          ∙ x.tally;
      stands = λ k s. y.stands k (x.stands k s);
    }

-- the node that changes is as before
pub record StaysAs (old new : Shown) : Type 0 where
  pub setup : new.setup ≡ old.setup
  pub code : new.code ≡ old.code
  pub me : new.me ≡ old.me
  pub tally : tally_of new ≡ tally_of old
  pub stands : StandsAsBefore old new

pub one_stays : (a b : StillShown) (k : ℕ) (old new : Shown) → slice_get a.nodes k ≡ Some old →
    b.nodes ≡ slice_set a.nodes k new → StaysAs old new → NodesStay a b
one_stays a b k old new there now s = λ i n is. elim (cases_eq i k) [
  | inl q ↦ (let same : n ≡ new =
      same_Some n new (sym is ∙ ap (λ j. slice_get b.nodes j) q ∙ get_here a.nodes b.nodes k old new there now) in
      subst (λ (x : Shown). IsAsBefore a i x) (sym same)
      (record {
        old = old;
        there = ap (λ j. slice_get a.nodes j) q ∙ there;
        setup = s.setup;
        code = s.code;
        me = s.me;
        tally = s.tally;
        stands = s.stands;
      }))
  | inr d ↦ record {
    old = n;
    there = sym (get_other a.nodes b.nodes k i new now d) ∙ is;
    setup = refl;
    code = refl;
    me = refl;
    tally = refl;
    stands = λ x st. st;
  }
]

pub pop_stays : (old new : Shown) → new ≡ record old { waiting = new.waiting } → StandsAsBefore old new → StaysAs old new
pop_stays old new same stands = record {
  setup = ap (λ (n : Shown). n.setup) same;
  code = ap (λ (n : Shown). n.code) same;
  me = ap (λ (n : Shown). n.me) same;
  tally = ap tally_of same;
  stands = stands;
}

pub accept_stays : (a b : List Shown) (m : Message) (x : Accepts a b m) → StaysAs x.old x.new
accept_stays a b m x = record {
  setup = ap (λ (n : Shown). n.setup) x.same;
  code = ap (λ (n : Shown). n.code) x.same;
  me = ap (λ (n : Shown). n.me) x.same;
  tally = ap tally_of x.same;
  stands = x.stands;
}

-- ---- a message is taken out of a node

pub pop_fronts : (a b : List Shown) (k : ℕ) (m : Message) → Pops a b k m → (f t : ℕ) (c : Chan) →
    front_of (slice_get b t) f c ≡ front_of (slice_get a t) f c
pop_fronts a b k m p f t c =
    ap (λ (ns : List Shown). front_of (slice_get ns t) f c) p.now
    ∙ set_as a k p.old p.new (λ (o : Option Shown). front_of o f c) p.there
    (ap (λ (n : Shown). option_to_list (front_at n f c)) p.same) t

pub pop_waits : (a b : List Shown) (k : ℕ) (m : Message) → Pops a b k m →
    waiting_of (slice_get a k) ≡ m ∷ waiting_of (slice_get b k)
pop_waits a b k m p =
    ap waiting_of p.there ∙ p.waits ∙ ap (λ (o : Option Shown). m ∷ waiting_of o) (sym (get_here a b k p.old p.new p.there p.now))

-- ---- a message is kept by its receiver

pub accept_waits : (a b : List Shown) (m : Message) → Accepts a b m → (i : ℕ) →
    waiting_of (slice_get b i) ≡ waiting_of (slice_get a i)
accept_waits a b m x i =
    ap (λ (ns : List Shown). waiting_of (slice_get ns i)) x.now
    ∙ set_as a m.to x.old x.new waiting_of x.there (ap (λ (n : Shown). n.waiting) x.same) i

pub small_place : (f : ℕ) (c : Chan) → f < 8 → place f c < 16
small_place f Zero l = omega arith
small_place f One l = omega arith

-- the receiver keeps the message, and each other front is as before
pub accept_fronts : (a b : List Shown) (m : Message) (x : Accepts a b m) → m.from < 8 → front_at x.old m.from m.chan ≡ None →
    (f t : ℕ) (c : Chan) → front_of (slice_get b t) f c ≡ front_of (slice_get a t) f c ++ onto f t c (m ∷ [])
accept_fronts a b m x small free f t c = go (on_wire f t c m) refl
  where
    spot : ℕ
    spot = place m.from m.chan

    put : List (Option Message)
    put = slice_set x.old.fronts spot (Some m)

    here : slice_get b m.to ≡ Some x.new
    here = get_here a b m.to x.old x.new x.there x.now

    new_fronts : x.new.fronts ≡ put
    new_fronts = ap (λ (n : Shown). n.fronts) x.same

    within : spot < length x.old.fronts
    within = let l = small_place m.from m.chan small in omega (arith, l, x.fronts)

    same : front_of (slice_get b m.to) m.from m.chan ≡ front_of (slice_get a m.to) m.from m.chan ++ onto m.from m.to m.chan
        (m ∷ [])
    same =
        ap (λ (o : Option Shown). front_of o m.from m.chan) here
        ∙ ap (λ (xs : List (Option Message)). option_to_list (slice_index_or xs spot None)) new_fronts
        ∙ ap option_to_list (get_or-set_same x.old.fronts spot (Some m) None within)
        ∙ sym (onto_one m.from m.to m.chan m (on_its_own m))
        ∙ ap (λ (o : Option Message). option_to_list o ++ onto m.from m.to m.chan (m ∷ [])) (sym free)
        ∙ ap (λ (o : Option Shown). front_of o m.from m.chan ++ onto m.from m.to m.chan (m ∷ [])) (sym x.there)

    other : on_wire f t c m ≡ false → front_of (slice_get b t) f c ≡ front_of (slice_get a t) f c
    other off = elim (cases_eq t m.to) [
      | inr d ↦ ap (λ (o : Option Shown). front_of o f c) (get_other a b m.to t x.new x.now d)
      | inl q ↦ elim (cases_eq (place f c) spot) [
        | inl p ↦ absurd
            (off_it f t c m off (sym (place_one f m.from c m.chan p).0, sym q, sym (place_one f m.from c m.chan p).1))
        | inr d ↦ ap (λ k. front_of (slice_get b k) f c) q
            ∙ ap (λ (o : Option Shown). front_of o f c) here
            ∙ ap (λ (xs : List (Option Message)). option_to_list (slice_index_or xs (place f c) None)) new_fronts
            ∙ ap option_to_list (get_or-set_other x.old.fronts spot (place f c) (Some m) None d)
            ∙ sym (ap (λ (o : Option Shown). front_of o f c) x.there)
            ∙ sym (ap (λ k. front_of (slice_get a k) f c) q)
      ]
    ]

    go : (v : Bool) → on_wire f t c m ≡ v → front_of (slice_get b t) f c ≡ front_of (slice_get a t) f c ++ onto f t c (m ∷ [])
    go true h =
        let w = on_it f t c m h in
        subst (λ k. front_of (slice_get b t) k c ≡ front_of (slice_get a t) k c ++ onto k t c (m ∷ [])) w.0
        (subst (λ k. front_of (slice_get b k) m.from c ≡ front_of (slice_get a k) m.from c ++ onto m.from k c (m ∷ [])) w.1
        (subst (λ (d : Chan). front_of (slice_get b m.to) m.from d ≡ front_of (slice_get a m.to) m.from d ++ onto m.from m.to d
        (m ∷ [])) w.2 same))
    go false h =
        other h ∙ sym (append-nil (front_of (slice_get a t) f c))
        ∙ ap (λ (ms : List Message). front_of (slice_get a t) f c ++ ms) (sym (onto_none f t c m h))

-- ---- rows

-- rows keep their count and their places
pub rows_count : (rows : Rows) (f t : ℕ) (c : Chan) (ms : List Message) → length (with_queue rows f t c ms) ≡ length rows
rows_count rows f t c ms = length-set rows f (slice_set (slice_index_or rows f []) (place t c) ms)

pub rows_places : (rows : Rows) (f t : ℕ) (c : Chan) (ms : List Message) → f < length rows →
    Each (λ row. length row ≡ 16) rows → Each (λ row. length row ≡ 16) (with_queue rows f t c ms)
rows_places rows f t c ms l each =
    each_set (λ (row : List (List Message)). length row ≡ 16) rows f (slice_set (slice_index_or rows f []) (place t c) ms) each
    (length-set (slice_index_or rows f []) (place t c) ms
    ∙ each_get (λ (row : List (List Message)). length row ≡ 16) rows f [] each l)

pub queue_here : (rows : Rows) (f t : ℕ) (c : Chan) (ms : List Message) → f < length rows →
    place t c < length (slice_index_or rows f []) → queue_at (with_queue rows f t c ms) f t c ≡ ms
queue_here rows f t c ms l within =
    ap (λ (r : List (List Message)). slice_index_or r (place t c) [])
    (get_or-set_same rows f (slice_set (slice_index_or rows f []) (place t c) ms) [] l)
    ∙ get_or-set_same (slice_index_or rows f []) (place t c) ms [] within

pub queue_other : (rows : Rows) (f t : ℕ) (c : Chan) (ms : List Message) (g u : ℕ) (d : Chan) → f < length rows →
    ((g ≡ f) × (u ≡ t) × (d ≡ c) → ⊥) → queue_at (with_queue rows f t c ms) g u d ≡ queue_at rows g u d
queue_other rows f t c ms g u d l away = elim (cases_eq g f) [
  | inr n ↦ ap (λ (r : List (List Message)). slice_index_or r (place u d) [])
      (get_or-set_other rows f g (slice_set (slice_index_or rows f []) (place t c) ms) [] n)
  | inl q ↦ elim (cases_eq (place u d) (place t c)) [
    | inl p ↦ absurd (away (q, (place_one u t d c p).0, (place_one u t d c p).1))
    | inr n ↦ ap (λ k. queue_at (with_queue rows f t c ms) k u d) q
        ∙ ap (λ (r : List (List Message)). slice_index_or r (place u d) [])
        (get_or-set_same rows f (slice_set (slice_index_or rows f []) (place t c) ms) [] l)
        ∙ get_or-set_other (slice_index_or rows f []) (place t c) (place u d) ms [] n
        ∙ ap (λ k. queue_at rows k u d) (sym q)
  ]
]

-- the first of a queue is taken
pub queue_taken : (rows : Rows) (f t : ℕ) (c : Chan) (m : Message) (rest : List Message) → f < length rows →
    place t c < length (slice_index_or rows f []) → (m.from ≡ f) × (m.to ≡ t) × (m.chan ≡ c) → queue_at rows f t c ≡ m ∷ rest
    → (g u : ℕ) (d : Chan) → queue_at rows g u d ≡ onto g u d (m ∷ []) ++ queue_at (with_queue rows f t c rest) g u d
queue_taken rows f t c m rest l within wire first g u d = go (on_wire g u d m) refl
  where
    same : queue_at rows f t c ≡ onto f t c (m ∷ []) ++ queue_at (with_queue rows f t c rest) f t c
    same =
        let on : on_wire f t c m ≡ true =
        subst (λ k. on_wire k t c m ≡ true) wire.0
        (subst (λ k. on_wire m.from k c m ≡ true) wire.1
        (subst (λ (e : Chan). on_wire m.from m.to e m ≡ true) wire.2 (on_its_own m))) in
        first ∙ ap (λ (ms : List Message). m ∷ ms) (sym (queue_here rows f t c rest l within))
        ∙ ap (λ (ms : List Message). ms ++ queue_at (with_queue rows f t c rest) f t c) (sym (onto_one f t c m on))

    go : (v : Bool) → on_wire g u d m ≡ v →
        queue_at rows g u d ≡ onto g u d (m ∷ []) ++ queue_at (with_queue rows f t c rest) g u d
    go true h =
        let w = on_it g u d m h in
        subst (λ k. queue_at rows k u d ≡ onto k u d (m ∷ []) ++ queue_at (with_queue rows f t c rest) k u d) (sym wire.0 ∙ w.0)
        (subst (λ k. queue_at rows f k d ≡ onto f k d (m ∷ []) ++ queue_at (with_queue rows f t c rest) f k d) (sym wire.1 ∙ w.1)
        (subst (λ (e : Chan). queue_at rows f t e ≡ onto f t e (m ∷ []) ++ queue_at (with_queue rows f t c rest) f t e)
        (sym wire.2 ∙ w.2) same))
    go false h =
        sym (queue_other rows f t c rest g u d l
        (λ same. off_it g u d m h (wire.0 ∙ sym same.0, wire.1 ∙ sym same.1, wire.2 ∙ sym same.2)))
        ∙ ap (λ (ms : List Message). ms ++ queue_at (with_queue rows f t c rest) g u d) (sym (onto_none g u d m h))
