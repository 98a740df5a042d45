-- The message that has waited longest at a node goes to its receiver, or behind those of its wire.
use Rattle.std.proofs.Common.{◌≡◌, ◌∙◌, ℕ, suc, ◌<◌, Bool, true, false, List, [], ◌∷◌, ◌++◌, Option, Some, None, length, refl}
use Rattle.std.proofs.Common.{ap, sym, subst, arith, append_assoc, append-nil, inl, inr}
use Rattle.std.specs.Prelude.{option_to_list, slice_get}
use Rattle.std.specs.List.{slice_index_or}
use Rattle.std.proofs.lemmas.Bool.{cases_eq}
use Rattle.std.proofs.lemmas.Option.{same_Some}
use Rattle.tw_base.specs.Lists.{Each}
use Rattle.tw_base.specs.declared.message.Chan.{Chan}
use Rattle.tw_base.specs.declared.message.Message.{Message}
use Rattle.dsm_runs.specs.Messages.{on_wire, place}
use Rattle.dsm_runs.specs.Setups.{Setup}
use Rattle.node_meaning.specs.Nodes.{Shown, front_at, onto, accepted_at}
use Rattle.node_meaning.specs.Stands.{IsFit}
use Rattle.still_meaning.proofs.Handing.{next_number, on_it, popped, put_behind, put_first, row_put}
use Rattle.still_meaning.specs.Laws.{holding}
use Rattle.still_meaning.specs.Stills.{IsNodeAt, AreWhole, Passes, StillShown, flight, front_of, row_at, unpushed}
use Rattle.still_nodes.specs.Handing.{Accepts, HandsTo, IsFilled, IsFirstOut, LeavesOthers, MayHandOver, Pops, queue_at}
use Rattle.still_nodes.specs.Handing.{waiting_of, waits_at, with_queue, MayAccept}
use Rattle.still_nodes.proofs.Fronts.{NodesStay, accept_fronts, accept_stays, accept_waits, count_same, get_here, get_other}
use Rattle.still_nodes.proofs.Fronts.{no_front, nodes_more, on_its_own, one_stays, onto_more, onto_none, pop_fronts, pop_stays}
use Rattle.still_nodes.proofs.Fronts.{pop_waits, rows_count, rows_places, small_place, unpushed_is}
use Rattle.still_nodes.proofs.Places.{node_there}
use Rattle.still_nodes.proofs.Lists.{each_get, first_rest, left_empty, right_empty}

-- ---- what is known of all

module _ (a : StillShown) (w : AreWhole a) where
  pub is_node : (i : ℕ) (n : Shown) → slice_get a.nodes i ≡ Some n → IsNodeAt a i n (w.still.ends i)
  is_node i n there = w.still.nodes i n there

  pub in_nodes : (i : ℕ) → i < a.setup.shape.nodes → i < length a.nodes
  in_nodes i l = subst (λ k. i < k) (sym w.still.count) l

  pub in_rows : (i : ℕ) → i < a.setup.shape.nodes → i < length a.rows
  in_rows i l = subst (λ k. i < k) (sym w.rows) l

  pub below_eight : (i : ℕ) → i < a.setup.shape.nodes → i < 8
  below_eight i l = let most = w.setup.limits.nodes in omega (arith, most, l)

  pub in_row : (f t : ℕ) (c : Chan) → f < a.setup.shape.nodes → t < a.setup.shape.nodes →
      place t c < length (slice_index_or a.rows f [])
  in_row f t c lf lt =
      let size : length (slice_index_or a.rows f []) ≡ 16 =
      each_get (λ (row : List (List Message)). length row ≡ 16) a.rows f [] w.places (in_rows f lf) in
      let small : place t c < 16 = small_place t c (below_eight t lt) in
      omega (arith, size, small)

-- ---- the message that has waited longest

module _ (a : StillShown) (w : AreWhole a) (k : ℕ) (m : Message) (o : IsFirstOut a.nodes k m) where
  pub from_is : m.from ≡ k
  from_is = o.fit.on.from ∙ (is_node a w k o.sender o.there).me

  pub to_within : m.to < a.setup.shape.nodes
  to_within = subst (λ (s : Setup). m.to < s.shape.nodes) (is_node a w k o.sender o.there).setup o.fit.receiver

  sender_there : slice_get a.nodes m.from ≡ Some o.sender
  sender_there = ap (λ i. slice_get a.nodes i) from_is ∙ o.there

  first_of_flight : front_of (slice_get a.nodes m.to) m.from m.chan ++ queue_at a.rows m.from m.to m.chan ≡ [] →
      (rest : List Message) × (flight a m.from m.to m.chan ≡ m ∷ rest)
  first_of_flight clear =
      let front : List Message = front_of (slice_get a.nodes m.to) m.from m.chan in
      let row : List Message = queue_at a.rows m.from m.to m.chan in
      let wait : List Message = unpushed (slice_get a.nodes m.from) m.from m.to m.chan in
      let r = first_rest o.sender.waiting m o.first in (
        onto m.from m.to m.chan r.0,
        sym (append_assoc front row wait) ∙ ap (λ (ms : List Message). ms ++ wait) clear
            ∙ ap (λ (x : Option Shown). unpushed x m.from m.to m.chan) sender_there
            ∙ ap (λ (ms : List Message). onto m.from m.to m.chan ms) r.1
            ∙ onto_more m.from m.to m.chan m r.0 (on_its_own m),
      )

  -- its receiver may keep it, where nothing that was handed over of its wire is on its way
  pub may_hand_over : k < a.setup.shape.nodes →
      front_of (slice_get a.nodes m.to) m.from m.chan ++ queue_at a.rows m.from m.to m.chan ≡ [] → MayHandOver a.nodes k
  may_hand_over lk clear =
      let r = node_there a w.state w.still m.to to_within in
      let x = is_node a w k o.sender o.there in
      let y = is_node a w m.to r.0 r.1 in
      let free : front_at r.0 m.from m.chan ≡ None =
      no_front (front_at r.0 m.from m.chan)
      (sym (ap (λ (q : Option Shown). front_of q m.from m.chan) r.1)
      ∙ left_empty (front_of (slice_get a.nodes m.to) m.from m.chan) (queue_at a.rows m.from m.to m.chan) clear) in
      let fit_from : IsFit o.sender.setup m.from m.to m = subst (λ i. IsFit o.sender.setup i m.to m) (sym o.fit.on.from) o.fit in
      let fit_to : IsFit o.sender.setup m.from r.0.me m = subst (λ i. IsFit o.sender.setup m.from i m) (sym y.me) fit_from in
      let f = first_of_flight clear in
      record {
        message = m;
        first = o;
        may = record {
          receiver = r.0;
          there = r.1;
          free = free;
          fit = subst (λ (s : Setup). IsFit s m.from r.0.me m) (x.setup ∙ sym y.setup) fit_to;
          number =
              next_number a w.state w.still m.from m.to m.chan o.sender r.0 m f.0 sender_there r.1
              (subst (λ i. i < a.setup.shape.nodes) (sym from_is) lk) to_within free f.1;
        };
      }

pub popped_is_first : (a b : List Shown) (k : ℕ) (m p : Message) → IsFirstOut a k m → Pops a b k p → p ≡ m
popped_is_first a b k m p o x =
    let same : o.sender ≡ x.old = same_Some o.sender x.old (sym o.there ∙ x.there) in
    same_Some p m (sym (ap (λ (ms : List Message). slice_get ms 0) x.waits)
    ∙ sym (ap (λ (n : Shown). slice_get n.waiting 0) same) ∙ o.first)

-- what acceptance asks of the receiver
abbrev Receives : Message → Shown → Type 0
Receives m n = (front_at n m.from m.chan ≡ None) × IsFit n.setup m.from n.me m × (m.number ≡ accepted_at n m.from m.chan)

-- a message that is in hand may be kept as before, by its sender too
pub may_accept_now : (a b : List Shown) (k : ℕ) (m : Message) → MayHandOver a k → Pops a b k m → MayAccept b m
may_accept_now a b k m h p =
    let first : m ≡ h.message = popped_is_first a b k h.message m h.first p in
    let may : MayAccept a m = subst (λ (x : Message). MayAccept a x) (sym first) h.may in
    let receives : Receives m may.receiver = (may.free, may.fit, may.number) in
    elim (cases_eq m.to k) [
      | inl q ↦ (let same : may.receiver ≡ p.old =
          same_Some may.receiver p.old (sym may.there ∙ ap (λ i. slice_get a i) q ∙ p.there) in
          let before : Receives m p.old = subst (λ (n : Shown). Receives m n) same receives in
          let after : Receives m p.new = subst (λ (n : Shown). Receives m n) (sym p.same) before in
          record {
            receiver = p.new;
            there = ap (λ i. slice_get b i) q ∙ get_here a b k p.old p.new p.there p.now;
            free = after.0;
            fit = after.1;
            number = after.2;
          })
      | inr d ↦ record {
        receiver = may.receiver;
        there = get_other a b k m.to p.new p.now d ∙ may.there;
        free = may.free;
        fit = may.fit;
        number = may.number;
      }
    ]

-- ---- what stays beside it

same_front : (x y z : List Message) (v : Bool) (f t : ℕ) (c : Chan) (m : Message) → on_wire f t c m ≡ v →
    (on_wire f t c m ≡ true → y ≡ []) → z ≡ x ++ onto f t c (m ∷ []) → z ++ y ≡ x ++ (y ++ onto f t c (m ∷ []))
same_front x y z true f t c m h none is =
    ap (λ (ms : List Message). z ++ ms) (none h) ∙ append-nil z ∙ is
    ∙ ap (λ (ms : List Message). x ++ (ms ++ onto f t c (m ∷ []))) (sym (none h))
same_front x y z false f t c m h none is =
    ap (λ (ms : List Message). ms ++ y) (is ∙ ap (λ (ms : List Message). x ++ ms) (onto_none f t c m h) ∙ append-nil x)
    ∙ ap (λ (ms : List Message). x ++ ms) (sym (append-nil y))
    ∙ ap (λ (ms : List Message). x ++ (y ++ ms)) (sym (onto_none f t c m h))

-- a front that is gone was not there before, so a wire that was filled is filled
pub still_filled : (a b : StillShown) → NodesStay a b → (f t : ℕ) (c : Chan) →
    (front_of (slice_get b.nodes t) f c ≡ [] → front_of (slice_get a.nodes t) f c ≡ []) →
    (row_at a f t c ≡ [] → front_of (slice_get b.nodes t) f c ≡ [] → row_at b f t c ≡ [])
    → IsFilled a f t c → IsFilled b f t c
still_filled a b stay f t c fronts rows filled n there none =
    let o = stay t n there in
    let front : front_of (slice_get b.nodes t) f c ≡ [] = ap (λ (x : Option Shown). front_of x f c) there
    ∙ ap (λ (x : Option Message). option_to_list x) none in
    let before : front_at o.old f c ≡ None =
    no_front (front_at o.old f c) (sym (ap (λ (x : Option Shown). front_of x f c) o.there) ∙ fronts front) in
    rows (filled o.old o.there before) front

-- the state while a message is in hand
abbrev in_hand : StillShown → List Shown → StillShown
in_hand a ns = record a { nodes = ns }

pop_nodes : (a : StillShown) (ns : List Shown) (k : ℕ) (m : Message) → Pops a.nodes ns k m → NodesStay a (in_hand a ns)
pop_nodes a ns k m p = one_stays a (in_hand a ns) k p.old p.new p.there p.now (pop_stays p.old p.new p.same p.stands)

pop_holds : (a : StillShown) (ns : List Shown) (k : ℕ) (m : Message) (p : Pops a.nodes ns k m) → m.from ≡ k →
    (f t : ℕ) (c : Chan) → holding (in_hand a ns) m f t c ≡ flight a f t c
pop_holds a ns k m p from f t c =
    popped a (in_hand a ns) k p.old p.new m p.there (get_here a.nodes ns k p.old p.new p.there p.now)
    (λ i d. get_other a.nodes ns k i p.new p.now d) refl p.waits (ap (λ (n : Shown). n.fronts) p.same) from f t c

-- ---- to its receiver

module _ (a b : StillShown) (w : AreWhole a) (k : ℕ) (lk : k < a.setup.shape.nodes) (m : Message) (o : IsFirstOut a.nodes k m)
    (between : List Shown) (p : Pops a.nodes between k m) (x : Accepts between b.nodes m)
    (clear : front_of (slice_get a.nodes m.to) m.from m.chan ++ queue_at a.rows m.from m.to m.chan ≡ [])
    (rows : b.rows ≡ a.rows) where
  from : m.from ≡ k
  from = from_is a w k m o

  fronts : (f t : ℕ) (c : Chan) → front_of (slice_get b.nodes t) f c ≡ front_of (slice_get between t) f c ++ onto f t c (m ∷ [])
  fronts =
      let small : m.from < 8 = below_eight a w m.from (subst (λ i. i < a.setup.shape.nodes) (sym from) lk) in
      let free : front_at x.old m.from m.chan ≡ None =
      no_front (front_at x.old m.from m.chan) (sym (ap (λ (q : Option Shown). front_of q m.from m.chan) x.there)
      ∙ pop_fronts a.nodes between k m p m.from m.to m.chan
      ∙ left_empty (front_of (slice_get a.nodes m.to) m.from m.chan) (queue_at a.rows m.from m.to m.chan) clear) in
      accept_fronts between b.nodes m x small free

  no_row : (f t : ℕ) (c : Chan) → on_wire f t c m ≡ true → row_at a f t c ≡ []
  no_row f t c h =
      let i = on_it f t c m h in
      let here : row_at a m.from m.to m.chan ≡ [] =
      right_empty (front_of (slice_get a.nodes m.to) m.from m.chan) (queue_at a.rows m.from m.to m.chan) clear in
      subst (λ j. row_at a j t c ≡ []) i.0
      (subst (λ j. row_at a m.from j c ≡ []) i.1 (subst (λ (d : Chan). row_at a m.from m.to d ≡ []) i.2 here))

  over_flight : (f t : ℕ) (c : Chan) → flight b f t c ≡ flight a f t c
  over_flight f t c =
      put_first (in_hand a between) b m rows
      (λ g u d. unpushed_is (slice_get b.nodes g) g u d
      ∙ ap (λ (ms : List Message). onto g u d ms) (accept_waits between b.nodes m x g)
      ∙ sym (unpushed_is (slice_get between g) g u d))
      (λ g u d. same_front (front_of (slice_get between u) g d) (row_at a g u d) (front_of (slice_get b.nodes u) g d)
      (on_wire g u d m) g u d m refl (no_row g u d) (fronts g u d)) f t c
      ∙ pop_holds a between k m p from f t c

  over_nodes : NodesStay a b
  over_nodes =
      nodes_more a (in_hand a between) b (pop_nodes a between k m p)
      (one_stays (in_hand a between) b m.to x.old x.new x.there x.now (accept_stays between b.nodes m x))

  pub over_passes : b.setup ≡ a.setup → b.code ≡ a.code → b.taken ≡ a.taken → Passes a b
  over_passes setup code taken = record {
    same_setup = setup;
    same_code = code;
    taken = taken;
    count = count_same between b.nodes m.to x.new x.now ∙ count_same a.nodes between k p.new p.now;
    nodes = over_nodes;
    flight = λ f t c lf lt. over_flight f t c;
  }

  pub over_others : LeavesOthers a b k
  over_others = record {
    waits =
        λ i d. accept_waits between b.nodes m x i
        ∙ ap (λ (q : Option Shown). waiting_of q) (get_other a.nodes between k i p.new p.now d);
    filled = λ f t c. still_filled a b over_nodes f t c
        (λ none. sym (pop_fronts a.nodes between k m p f t c)
        ∙ left_empty (front_of (slice_get between t) f c) (onto f t c (m ∷ [])) (sym (fronts f t c) ∙ none))
        (λ empty none. ap (λ (rs : List (List (List Message))). queue_at rs f t c) rows ∙ empty);
  }

  pub over_out : HandsTo a b k m.to
  over_out = record {
    within = to_within a w k m o;
    fewer =
        let before : length (waits_at a k) ≡ suc (length (waiting_of (slice_get between k))) =
        ap length (pop_waits a.nodes between k m p) in
        let after : length (waits_at b k) ≡ length (waiting_of (slice_get between k)) =
        ap length (accept_waits between b.nodes m x k) in
        omega (arith, before, after);
    away = λ i dk dt. get_other between b.nodes m.to i x.new x.now dt ∙ get_other a.nodes between k i p.new p.now dk;
  }

-- ---- behind those of its wire

module _ (a b : StillShown) (w : AreWhole a) (k : ℕ) (lk : k < a.setup.shape.nodes) (m : Message) (o : IsFirstOut a.nodes k m)
    (p : Pops a.nodes b.nodes k m)
    (busy : front_of (slice_get a.nodes m.to) m.from m.chan ++ queue_at a.rows m.from m.to m.chan ≡ [] → ⊥)
    (rows : b.rows ≡ with_queue a.rows m.from m.to m.chan (queue_at a.rows m.from m.to m.chan ++ m ∷ [])) where
  sender : m.from < a.setup.shape.nodes
  sender = subst (λ i. i < a.setup.shape.nodes) (sym (from_is a w k m o)) lk

  row_more : (f t : ℕ) (c : Chan) → row_at b f t c ≡ row_at a f t c ++ onto f t c (m ∷ [])
  row_more f t c =
      ap (λ (rs : List (List (List Message))). queue_at rs f t c) rows
      ∙ row_put a.rows m (in_rows a w m.from sender) (in_row a w m.from m.to m.chan sender (to_within a w k m o)) f t c

  behind_nodes : NodesStay a b
  behind_nodes = one_stays a b k p.old p.new p.there p.now (pop_stays p.old p.new p.same p.stands)

  pub behind_passes : b.setup ≡ a.setup → b.code ≡ a.code → b.taken ≡ a.taken → Passes a b
  behind_passes setup code taken = record {
    same_setup = setup;
    same_code = code;
    taken = taken;
    count = count_same a.nodes b.nodes k p.new p.now;
    nodes = behind_nodes;
    flight =
        λ f t c lf lt. put_behind (in_hand a b.nodes) b m refl row_more f t c
        ∙ pop_holds a b.nodes k m p (from_is a w k m o) f t c;
  }

  -- a wire of which the receiver keeps nothing is another
  not_this : (f t : ℕ) (c : Chan) → row_at a f t c ≡ [] → front_of (slice_get b.nodes t) f c ≡ [] → (v : Bool) →
      on_wire f t c m ≡ v → onto f t c (m ∷ []) ≡ []
  not_this f t c empty none false h = onto_none f t c m h
  not_this f t c empty none true h =
      let i = on_it f t c m h in
      let both : front_of (slice_get a.nodes t) f c ++ queue_at a.rows f t c ≡ [] =
      ap (λ (ms : List Message). ms ++ queue_at a.rows f t c) (sym (pop_fronts a.nodes b.nodes k m p f t c) ∙ none) ∙ empty in
      absurd (busy (subst (λ j. front_of (slice_get a.nodes m.to) j m.chan ++ queue_at a.rows j m.to m.chan ≡ []) (sym i.0)
      (subst (λ j. front_of (slice_get a.nodes j) f m.chan ++ queue_at a.rows f j m.chan ≡ []) (sym i.1)
      (subst (λ (d : Chan). front_of (slice_get a.nodes t) f d ++ queue_at a.rows f t d ≡ []) (sym i.2) both))))

  pub behind_others : LeavesOthers a b k
  behind_others = record {
    waits = λ i d. ap (λ (q : Option Shown). waiting_of q) (get_other a.nodes b.nodes k i p.new p.now d);
    filled = λ f t c. still_filled a b behind_nodes f t c
        (λ none. sym (pop_fronts a.nodes b.nodes k m p f t c) ∙ none)
        (λ empty none. row_more f t c ∙ ap (λ (ms : List Message). ms ++ onto f t c (m ∷ [])) empty
        ∙ not_this f t c empty none (on_wire f t c m) refl);
  }

  pub behind_out : HandsTo a b k m.to
  behind_out = record {
    within = to_within a w k m o;
    fewer =
        let before : length (waits_at a k) ≡ suc (length (waits_at b k)) =
        ap length (pop_waits a.nodes b.nodes k m p) in omega (arith, before);
    away = λ i dk dt. get_other a.nodes b.nodes k i p.new p.now dk;
  }

  pub behind_count : length b.rows ≡ length a.rows
  behind_count =
      ap (λ (rs : List (List (List Message))). length rs) rows
      ∙ rows_count a.rows m.from m.to m.chan (queue_at a.rows m.from m.to m.chan ++ m ∷ [])

  pub behind_places : Each (λ row. length row ≡ 16) b.rows
  behind_places = subst (λ (rs : List (List (List Message))). Each (λ row. length row ≡ 16) rs) (sym rows)
      (rows_places a.rows m.from m.to m.chan (queue_at a.rows m.from m.to m.chan ++ m ∷ []) (in_rows a w m.from sender) w.places)
