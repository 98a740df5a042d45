-- A seat stays one by each of its steps.
use Rattle.std.proofs.Common.{◌≡◌, ◌≢◌, ◌∙◌, ◌<◌, ◌+◌, ℕ, Bool, true, false, nat_eq, if◌then◌else◌, List, [], ◌∷◌, ◌++◌, Option}
use Rattle.std.proofs.Common.{None, Some, length, set, refl, ap, sym, subst, inl, inr, arith, append_assoc, append-nil}
use Rattle.std.proofs.Common.{eqb-true}
use Rattle.std.specs.Prelude.{option_to_list, replicate, slice_get, slice_index, slice_set}
use Rattle.std.specs.List.{slice_index_or}
use Rattle.std.proofs.lemmas.Bool.{cases_eq, cases_lt}
use Rattle.std.proofs.lemmas.List.{get_or-replicate, get_or-set_other, get_or-set_same, get_or_past}
use Rattle.std.proofs.lemmas.Option.{get_or_from_slice_get, slice_get_within}
use Rattle.std.proofs.lemmas.List.Elements.{filter-append}
use Rattle.std.proofs.Math.ListN.{length-set}
use Rattle.tw_base.specs.declared.entry.Act.{Act}
use Rattle.tw_base.specs.declared.entry.Act.TheVariants as act
use Rattle.tw_base.specs.declared.entry.Entry.{Entry}
use Rattle.tw_base.specs.declared.entry.Event.{Event}
use Rattle.tw_base.specs.declared.entry.Event.TheVariants as event
use Rattle.tw_base.specs.declared.message.Chan.{Chan}
use Rattle.tw_base.specs.declared.message.Message.{Message}
use Rattle.handler_code.specs.declared.code.Code.{Code}
use Rattle.dsm_runs.specs.Messages.{chan_eq, on_wire, place}
use Rattle.dsm_runs.specs.Replays.{begin}
use Rattle.dsm_runs.specs.Setups.{Setup}
use Rattle.dsm_runs.specs.Worlds.{event_at, taken, takes_from}
use Rattle.dsm_runs.proofs.Lists.{and_left, and_right, chan_eq-true, chan_eq_refl, nat_eq_refl}
use Rattle.node_meaning.specs.Nodes.{Shown, accepted_at, front_at, onto}
use Rattle.node_meaning.specs.Stands.{GoesOn, IsFit, Makes, StandsAsBefore, StandsFor}
use Rattle.node_meaning.proofs.Posting.{on_it, place_is}
use Rattle.tw_wire.specs.Places.{Names}
use Rattle.tw_wire.specs.Sides.{Receiving, Sending, with_sent, with_taken}
use Rattle.tw_wire.specs.Wires.{AreEndsOf, AreUnused, EndsShown, sent_of, taken_of}
use Rattle.tw_wire.proofs.Keeping.{recv-keeps, send-keeps}
use Rattle.seat_meaning.specs.Seats.{Came, IsNext, IsSeated, Seated, came_at, closed_at, pushed_at}
use Rattle.node_seats.proofs.Ends.{came_here, came_there, pushed_here, pushed_there, set_same, with_recvs, with_sends}

-- ---- what came by a wire

next_back : (n p : Shown) (f : ℕ) (c : Chan) (m : Message) → p.setup ≡ n.setup → p.me ≡ n.me
    → accepted_at p f c ≡ accepted_at n f c → IsNext p f c m → IsNext n f c m
next_back n p f c m setup me count h = record {
  fit = subst (λ k. IsFit n.setup f k m) me (subst (λ (s : Setup). IsFit s f p.me m) setup h.fit);
  chan = h.chan;
  number = h.number ∙ count;
}

-- the same came by a wire, and the same was accepted of it
came_same : (b : Bool) (n p : Shown) (f : ℕ) (c : Chan) (took took' came came' : List Message) → p.setup ≡ n.setup
    → p.me ≡ n.me → accepted_at p f c ≡ accepted_at n f c → took' ≡ took → came' ≡ came
    → Came b n f c took came → Came b p f c took' came'
came_same false n p f c took took' came came' setup me count is now h = now ∙ h ∙ sym is
came_same true n p f c took took' came came' setup me count is now h =
    (h.0, now ∙ h.1 ∙ ap (λ (ms : List Message). ms ++ h.0 ∷ []) (sym is), λ x. h.2 (next_back n p f c h.0 setup me count x))

-- ---- messages on a wire

onto_one : (me t : ℕ) (c : Chan) (m : Message) (rest : List Message) → on_wire me t c m ≡ true
    → onto me t c (m ∷ rest) ≡ m ∷ onto me t c rest
onto_one me t c m rest on = rw on refl

onto_none : (me t : ℕ) (c : Chan) (m : Message) (rest : List Message) → on_wire me t c m ≡ false
    → onto me t c (m ∷ rest) ≡ onto me t c rest
onto_none me t c m rest off = rw off refl

apart_off : (me t : ℕ) (c : Chan) (m : Message) → m.from ≡ me → on_wire me t c m ≡ false → place t c ≢ place m.to m.chan
apart_off me t c m from off e =
    let at = place_is t m.to c m.chan e in
    let on : on_wire me m.to m.chan m ≡ true = rw (from, nat_eq_refl me, nat_eq_refl m.to) (chan_eq_refl m.chan) in
    let there : on_wire me t c m ≡ true = ap (λ u. on_wire me u c m) at.0 ∙ ap (λ (d : Chan). on_wire me m.to d m) at.1 ∙ on in
    let bad : true ≡ false = sym there ∙ off in
    absurd cc

-- ---- an event of the node

event_taken : (i : ℕ) (a : Act) (f : ℕ) (c : Chan) → takes_from a f c ≡ true → event_at i a ≡ event.Deliver i f c
event_taken i (act.Delivered kind block from chan number) f c h =
    let at : f ≡ from = eqb-true f from (and_left (nat_eq f from) (chan_eq c chan) h) in
    let on : c ≡ chan = chan_eq-true c chan (and_right (nat_eq f from) (chan_eq c chan) h) in
    ap (λ k. event.Deliver i k chan) (sym at) ∙ ap (λ (d : Chan). event.Deliver i f d) (sym on)
event_taken i (act.Load address value) f c h = absurd cc
event_taken i (act.Store address value) f c h = absurd cc
event_taken i (act.Faa address value sum) f c h = absurd cc
event_taken i (act.Print value) f c h = absurd cc
event_taken i act.Halt f c h = absurd cc
event_taken i (act.Trapped why) f c h = absurd cc
event_taken i act.Step f c h = absurd cc
event_taken i (act.Fault store block) f c h = absurd cc
event_taken i (act.Redelivered kind block from) f c h = absurd cc

took_same : (b : Bool) (front kept : Option Message) (took : List Message) → (b ≡ true → front ≡ kept)
    → (took ++ (if b then option_to_list front else [])) ++ option_to_list
    (if b then None else kept) ≡ took ++ option_to_list kept
took_same true front kept took same = append-nil (took ++ option_to_list front)
    ∙ ap (λ (o : Option Message). took ++ option_to_list o) (same refl)
took_same false front kept took same = ap (λ (ms : List Message). ms ++ option_to_list kept) (append-nil took)

taken_by : (me : ℕ) (e : Entry) (front : Option Message) (f : ℕ) (c : Chan) → e.node ≡ me
    → taken e front f me c ≡ (if takes_from e.act f c then option_to_list front else [])
taken_by me e front f c at = rw (at, nat_eq_refl me) refl

-- the event takes of a wire only what the node keeps of it
abbrev pub TakesFront : Shown → Option Message → Event → Type 0
TakesFront n front e = (f : ℕ) (c : Chan) → e ≡ event.Deliver n.me f c → front ≡ front_at n f c

-- the node keeps the message of this wire
abbrev pub with_front : Shown → ℕ → Chan → Message → Shown
with_front n f c m = record n {
  fronts = slice_set n.fronts (place f c) (Some m);
  accepted = slice_set n.accepted (place f c) (m.number + 1);
}

module _ (common : Setup) (code : Code) (names : Names) (number : ℕ) where
  -- ---- room is made

  pub stays : (s : Seated) (p : Shown) → p.setup ≡ s.node.setup → p.code ≡ s.node.code → p.me ≡ s.node.me
      → p.waiting ≡ s.node.waiting → p.fronts ≡ s.node.fronts → p.accepted ≡ s.node.accepted
      → StandsAsBefore s.node p → IsSeated common code names number s
      → IsSeated common code names number (record s { node = p })
  stays s p setup code2 me waits fronts counts stands h = record {
    same_setup = setup ∙ h.same_setup;
    same_code = code2 ∙ h.same_code;
    me = me ∙ h.me;
    wires = h.wires;
    places = h.places;
    course = h.course;
    stands = stands h.course h.stands;
    pushed = λ t c l. h.pushed t c l ∙ ap (λ (ms : List Message). pushed_at s.ends t c ++ onto number t c ms) (sym waits);
    came = λ f c l. came_same (closed_at s f c) s.node p f c (h.course.took f c ++ option_to_list (front_at s.node f c))
        (h.course.took f c ++ option_to_list (front_at p f c)) (came_at s.ends f c) (came_at s.ends f c)
        setup me (ap (λ (ks : List ℕ). slice_index ks (place f c)) counts)
        (ap (λ (xs : List (Option Message)). h.course.took f c ++ option_to_list (slice_index_or xs (place f c) None))
        fronts) refl (h.came f c l);
  }

  -- ---- an event

  pub makes : (s : Seated) (p : Shown) (front : Option Message) (e : Event) → Makes s.node p front e
      → TakesFront s.node front e → IsSeated common code names number s
      → IsSeated common code names number (record s { node = p })
  makes s p front e m takes h = record {
    same_setup = m.same_setup ∙ h.same_setup;
    same_code = m.same_code ∙ h.same_code;
    me = m.same_me ∙ h.me;
    wires = h.wires;
    places = h.places;
    course = g.after;
    stands = g.stands;
    pushed = λ t c l. g.sent t c
        ∙ ap (λ k. h.course.sent t c ++ onto k t c m.more) h.me
        ∙ ap (λ (ms : List Message). ms ++ onto number t c m.more) (h.pushed t c l)
        ∙ append_assoc (pushed_at s.ends t c) (onto number t c s.node.waiting) (onto number t c m.more)
        ∙ ap (λ (ms : List Message). pushed_at s.ends t c ++ ms)
        (sym (filter-append (on_wire number t c) s.node.waiting m.more))
        ∙ ap (λ (ms : List Message). pushed_at s.ends t c ++ onto number t c ms) (sym m.waits);
    came = λ f c l. came_same (closed_at s f c) s.node p f c (h.course.took f c ++ option_to_list (front_at s.node f c))
        (g.after.took f c ++ option_to_list (front_at p f c)) (came_at s.ends f c) (came_at s.ends f c)
        m.same_setup m.same_me (ap (λ (ks : List ℕ). slice_index ks (place f c)) m.same_accepted) (took f c) refl
        (h.came f c l);
  }
    where
      g : GoesOn s.node p h.course m.entry front m.more
      g = m.goes h.course h.stands

      at_node : m.entry.node ≡ s.node.me
      at_node = g.goes.local.node

      front_is : (f : ℕ) (c : Chan) → takes_from m.entry.act f c ≡ true → front ≡ front_at s.node f c
      front_is f c t = takes f c (sym m.tells ∙ event_taken m.entry.node m.entry.act f c t
          ∙ ap (λ k. event.Deliver k f c) at_node)

      took : (f : ℕ) (c : Chan) → g.after.took f c ++ option_to_list (front_at p f c) ≡ h.course.took f c ++ option_to_list
          (front_at s.node f c)
      took f c =
          ap (λ (ms : List Message). ms ++ option_to_list (front_at p f c)) (g.goes.took f c)
          ∙ ap (λ (ms : List Message). (h.course.took f c ++ ms) ++ option_to_list (front_at p f c))
          (taken_by s.node.me m.entry g.goes.front f c at_node)
          ∙ ap (λ (o : Option Message). (h.course.took f c ++ (if takes_from m.entry.act f c then option_to_list o else []))
          ++ option_to_list (front_at p f c)) g.takes
          ∙ ap (λ (o : Option Message).
          (h.course.took f c ++ (if takes_from m.entry.act f c then option_to_list front else [])) ++ option_to_list o)
          (m.fronts f c)
          ∙ took_same (takes_from m.entry.act f c) front (front_at s.node f c) (h.course.took f c) (front_is f c)

  -- ---- a push

  pub push : (s : Seated) (m : Message) (rest : List Message) (pass pass' : Sending) → s.node.waiting ≡ m ∷ rest
      → IsFit s.node.setup s.node.me m.to m → slice_get s.ends.sends (place m.to m.chan) ≡ Some pass
      → (pass'.route ≡ pass.route) × (pass'.wire ≡ pass.wire) → pass'.sent ≡ pass.sent ++ m ∷ []
      → StandsAsBefore s.node (record s.node { waiting = rest }) → IsSeated common code names number s
      → IsSeated common code names number (record {
        node = record s.node { waiting = rest };
        ends = with_sends s.ends
            (place m.to m.chan) pass';
        closed = s.closed;
      })
  push s m rest pass pass' waits fit at same sent stands h = record {
    same_setup = h.same_setup;
    same_code = h.same_code;
    me = h.me;
    wires = send-keeps common.shape.nodes names number s.ends m.to m.chan pass pass' h.wires at same;
    places = h.places;
    course = h.course;
    stands = stands h.course h.stands;
    pushed = λ t c l. h.pushed t c l ∙ ap (λ (ms : List Message). pushed_at s.ends t c ++ onto number t c ms) waits
        ∙ moved t c (on_wire number t c m) refl;
    came = λ f c l. came_same (closed_at s f c) s.node (record s.node { waiting = rest }) f c
        (h.course.took f c ++ option_to_list (front_at s.node f c)) (h.course.took f c ++ option_to_list
        (front_at s.node f c)) (came_at s.ends f c) (came_at s.ends f c)
        refl refl refl refl refl (h.came f c l);
  }
    where
      ends : EndsShown
      ends = with_sends s.ends (place m.to m.chan) pass'

      from : m.from ≡ number
      from = fit.on.from ∙ h.me

      was : pushed_at s.ends m.to m.chan ≡ pass.sent
      was = ap sent_of at

      here : pushed_at ends m.to m.chan ≡ pushed_at s.ends m.to m.chan ++ m ∷ []
      here = pushed_here s.ends m.to m.chan pass pass' at ∙ sent ∙ ap (λ (ms : List Message). ms ++ m ∷ []) (sym was)

      moved : (t : ℕ) (c : Chan) (b : Bool) → on_wire number t c m ≡ b
          → pushed_at s.ends t c ++ onto number t c (m ∷ rest) ≡ pushed_at ends t c ++ onto number t c rest
      moved t c true on =
          let w = on_it number t c m on in
          let now : pushed_at ends t c ≡ pushed_at s.ends t c ++ m ∷ [] = subst
          (λ k. pushed_at ends k c ≡ pushed_at s.ends k c ++ m ∷ []) w.0
          (subst (λ (d : Chan). pushed_at ends m.to d ≡ pushed_at s.ends m.to d ++ m ∷ []) w.1 here) in
          ap (λ (ms : List Message). pushed_at s.ends t c ++ ms) (onto_one number t c m rest on)
          ∙ sym (append_assoc (pushed_at s.ends t c) (m ∷ []) (onto number t c rest))
          ∙ ap (λ (ms : List Message). ms ++ onto number t c rest) (sym now)
      moved t c false off =
          ap (λ (ms : List Message). pushed_at s.ends t c ++ ms) (onto_none number t c m rest off)
          ∙ ap (λ (ms : List Message). ms ++ onto number t c rest) (sym (pushed_there s.ends m.to t m.chan c pass'
          (apart_off number t c m from off)))

  -- ---- a look at a wire

  -- nothing was found
  pub look : (s : Seated) (f : ℕ) (c : Chan) (r r' : Receiving) → slice_get s.ends.recvs (place f c) ≡ Some r
      → (r'.route ≡ r.route) × (r'.wire ≡ r.wire) → r'.taken ≡ r.taken → IsSeated common code names number s
      → IsSeated common code names number (record s { ends = with_recvs s.ends (place f c) r' })
  look s f c r r' at same taken h = record {
    same_setup = h.same_setup;
    same_code = h.same_code;
    me = h.me;
    wires = recv-keeps common.shape.nodes names number s.ends f c r r' h.wires at same;
    places = h.places;
    course = h.course;
    stands = h.stands;
    pushed = h.pushed;
    came = λ g d l. came_same (closed_at s g d) s.node s.node g d (h.course.took g d ++ option_to_list (front_at s.node g d))
        (h.course.took g d ++ option_to_list (front_at s.node g d)) (came_at s.ends g d)
        (came_at (with_recvs s.ends (place f c) r') g d) refl refl refl refl (elim (cases_eq (place g d) (place f c)) [
          | inl e ↦
              let w = place_is g f d c e in
              subst (λ k. came_at (with_recvs s.ends (place f c) r') k d ≡ came_at s.ends k d) (sym w.0)
              (subst (λ (x : Chan). came_at (with_recvs s.ends (place f c) r') f x ≡ came_at s.ends f x) (sym w.1)
              (came_here s.ends f c r r' at ∙ taken ∙ sym (ap taken_of at)))
          | inr apart ↦ came_there s.ends f g c d r' apart
        ]) (h.came g d l);
  }

  -- the message that was found is one more that came
  found : (s : Seated) (f : ℕ) (c : Chan) (m : Message) (r r' : Receiving) → slice_get s.ends.recvs (place f c) ≡ Some r
      → r'.taken ≡ r.taken ++ m ∷ [] → came_at (with_recvs s.ends (place f c) r') f c ≡ came_at s.ends f c ++ m ∷ []
  found s f c m r r' at taken = came_here s.ends f c r r' at ∙ taken
      ∙ ap (λ (ms : List Message). ms ++ m ∷ []) (sym (ap taken_of at))

  -- the node keeps it
  pub keep : (s : Seated) (f : ℕ) (c : Chan) (m : Message) (r r' : Receiving) → slice_get s.ends.recvs (place f c) ≡ Some r
      → (r'.route ≡ r.route) × (r'.wire ≡ r.wire) → r'.taken ≡ r.taken ++ m ∷ []
      → closed_at s f c ≡ false → front_at s.node f c ≡ None → place f c < length s.node.fronts
      → StandsAsBefore s.node (with_front s.node f c m) → IsSeated common code names number s
      → IsSeated common code names number (record s { node = with_front s.node f c m; ends = with_recvs s.ends (place f c) r' })
  keep s f c m r r' at same taken opened none within stands h = record {
    same_setup = h.same_setup;
    same_code = h.same_code;
    me = h.me;
    wires = recv-keeps common.shape.nodes names number s.ends f c r r' h.wires at same;
    places = h.places;
    course = h.course;
    stands = stands h.course h.stands;
    pushed = h.pushed;
    came = λ g d l. elim (cases_eq (place g d) (place f c)) [
      | inl e ↦
          let w = place_is g f d c e in
          subst (λ k. Came (closed_at s k d) kept k d (h.course.took k d ++ option_to_list (front_at kept k d))
          (came_at ends k d)) (sym w.0)
          (subst (λ (x : Chan). Came (closed_at s f x) kept f x (h.course.took f x ++ option_to_list (front_at kept f x))
          (came_at ends f x)) (sym w.1)
          (here (subst (λ k. k < common.shape.nodes) w.0 l)))
      | inr apart ↦ came_same (closed_at s g d) s.node kept g d (h.course.took g d ++ option_to_list (front_at s.node g d))
          (h.course.took g d ++ option_to_list (front_at kept g d)) (came_at s.ends g d) (came_at ends g d)
          refl refl (get_or-set_other s.node.accepted (place f c) (place g d) (m.number + 1) 0 apart)
          (ap (λ (o : Option Message). h.course.took g d ++ option_to_list o) (get_or-set_other s.node.fronts (place f c)
          (place g d) (Some m) None apart)) (came_there s.ends f g c d r' apart) (h.came g d l)
    ];
  }
    where
      kept : Shown
      kept = with_front s.node f c m

      ends : EndsShown
      ends = with_recvs s.ends (place f c) r'

      front : front_at kept f c ≡ Some m
      front = get_or-set_same s.node.fronts (place f c) (Some m) None within

      here : f < common.shape.nodes → Came (closed_at s f c) kept f c (h.course.took f c ++ option_to_list
          (front_at kept f c)) (came_at ends f c)
      here l =
          let before : Came false s.node f c (h.course.took f c ++ option_to_list (front_at s.node f c)) (came_at s.ends f c) =
          subst (λ b. Came b s.node f c (h.course.took f c ++ option_to_list (front_at s.node f c))
          (came_at s.ends f c)) opened (h.came f c l) in
          let took : came_at s.ends f c ≡ h.course.took f c = before
          ∙ ap (λ (o : Option Message). h.course.took f c ++ option_to_list o) none ∙ append-nil (h.course.took f c) in
          subst (λ b. Came b kept f c (h.course.took f c ++ option_to_list (front_at kept f c)) (came_at ends f c)) (sym opened)
          (found s f c m r r' at taken ∙ ap (λ (ms : List Message). ms ++ m ∷ []) took
          ∙ ap (λ (o : Option Message). h.course.took f c ++ option_to_list o) (sym front))

  -- the wire is closed
  pub close : (s : Seated) (f : ℕ) (c : Chan) (m : Message) (r r' : Receiving) → slice_get s.ends.recvs (place f c) ≡ Some r
      → (r'.route ≡ r.route) × (r'.wire ≡ r.wire) → r'.taken ≡ r.taken ++ m ∷ []
      → closed_at s f c ≡ false → place f c < 16 → ¬ IsNext s.node f c m → IsSeated common code names number s
      → IsSeated common code names number (record s {
        ends = with_recvs s.ends (place f c) r';
        closed = slice_set s.closed
            (place f c) true;
      })
  close s f c m r r' at same taken opened within unfit h = record {
    same_setup = h.same_setup;
    same_code = h.same_code;
    me = h.me;
    wires = recv-keeps common.shape.nodes names number s.ends f c r r' h.wires at same;
    places = length-set s.closed (place f c) true ∙ h.places;
    course = h.course;
    stands = h.stands;
    pushed = h.pushed;
    came = λ g d l. elim (cases_eq (place g d) (place f c)) [
      | inl e ↦
          let w = place_is g f d c e in
          subst (λ k. Came (slice_index_or closed (place k d) false) s.node k d (h.course.took k d ++ option_to_list
          (front_at s.node k d)) (came_at ends k d)) (sym w.0)
          (subst (λ (x : Chan). Came (slice_index_or closed (place f x) false) s.node f x
          (h.course.took f x ++ option_to_list (front_at s.node f x)) (came_at ends f x)) (sym w.1)
          (here (subst (λ k. k < common.shape.nodes) w.0 l)))
      | inr apart ↦ subst (λ b. Came b s.node g d (h.course.took g d ++ option_to_list (front_at s.node g d))
          (came_at ends g d)) (sym (get_or-set_other s.closed (place f c) (place g d) true false apart))
          (came_same (closed_at s g d) s.node s.node g d (h.course.took g d ++ option_to_list (front_at s.node g d))
          (h.course.took g d ++ option_to_list (front_at s.node g d)) (came_at s.ends g d) (came_at ends g d)
          refl refl refl refl (came_there s.ends f g c d r' apart) (h.came g d l))
    ];
  }
    where
      closed : List Bool
      closed = slice_set s.closed (place f c) true

      ends : EndsShown
      ends = with_recvs s.ends (place f c) r'

      here : f < common.shape.nodes → Came (slice_index_or closed (place f c) false) s.node f c
          (h.course.took f c ++ option_to_list (front_at s.node f c)) (came_at ends f c)
      here l =
          let before : came_at s.ends f c ≡ h.course.took f c ++ option_to_list (front_at s.node f c) =
          subst (λ b. Came b s.node f c (h.course.took f c ++ option_to_list (front_at s.node f c))
          (came_at s.ends f c)) opened (h.came f c l) in
          let now : slice_index_or closed (place f c) false ≡ true = get_or-set_same s.closed (place f c) true false
          (omega (arith, within, h.places)) in
          subst (λ b. Came b s.node f c (h.course.took f c ++ option_to_list (front_at s.node f c)) (came_at ends f c))
          (sym now)
          (m, found s f c m r r' at taken ∙ ap (λ (ms : List Message). ms ++ m ∷ []) before, unfit)

  -- ---- the start

  pub begun : (n : Shown) (e : EndsShown) → n.setup ≡ common → n.code ≡ code → n.me ≡ number → n.waiting ≡ []
      → ((f : ℕ) (c : Chan) → front_at n f c ≡ None) → StandsFor n (begin common number)
      → AreEndsOf common.shape.nodes names number e → AreUnused e
      → IsSeated common code names number (record { node = n; ends = e; closed = replicate 16 false })
  begun n e setup code2 me waits fronts stands wires unused = record {
    same_setup = setup;
    same_code = code2;
    me = me;
    wires = wires;
    places = refl;
    course = begin common number;
    stands = stands;
    pushed = λ t c l. sym (ap (λ (ms : List Message). ms ++ onto number t c n.waiting)
        (none_pushed t c (slice_get e.sends (place t c)) refl) ∙ ap (λ (ms : List Message). onto number t c ms) waits);
    came = λ f c l. subst (λ b. Came b n f c (option_to_list (front_at n f c)) (came_at e f c)) (sym (all_open (place f c)))
        (none_came f c (slice_get e.recvs (place f c)) refl ∙ ap (λ (o : Option Message). option_to_list o) (sym (fronts f c)));
  }
    where
      none_pushed : (t : ℕ) (c : Chan) (o : Option Sending) → slice_get e.sends (place t c) ≡ o → sent_of o ≡ []
      none_pushed t c None h = refl
      none_pushed t c (Some s) h = subst (λ (x : Sending). x.sent ≡ []) (get_or_from_slice_get e.sends (place t c) s s h)
          (unused.outs (place t c) s (slice_get_within e.sends (place t c) s h))

      none_came : (f : ℕ) (c : Chan) (o : Option Receiving) → slice_get e.recvs (place f c) ≡ o → taken_of o ≡ []
      none_came f c None h = refl
      none_came f c (Some r) h = subst (λ (x : Receiving). x.taken ≡ []) (get_or_from_slice_get e.recvs (place f c) r r h)
          (unused.ins (place f c) r (slice_get_within e.recvs (place f c) r h)).0

      all_open : (k : ℕ) → slice_index_or (replicate 16 false) k false ≡ false
      all_open k = elim (cases_lt k 16) [
        | inl l ↦ get_or-replicate 16 k false false l
        | inr past ↦ get_or_past
            (replicate 16 false) k false past
      ]

  -- ---- as the node's calls say it

  -- room was made
  pub readied : (s : Seated) (p : Shown)
      → p ≡ record s.node { ready = p.ready; conts = record s.node.conts { spare = p.conts.spare } }
      → StandsAsBefore s.node p → IsSeated common code names number s
      → IsSeated common code names number (record s { node = p })
  readied s p same stands h =
      stays s p (ap (λ (n : Shown). n.setup) same) (ap (λ (n : Shown). n.code) same) (ap (λ (n : Shown). n.me) same)
      (ap (λ (n : Shown). n.waiting) same) (ap (λ (n : Shown). n.fronts) same)
      (ap (λ (n : Shown). n.accepted) same) stands h

  -- a message was pushed and handed out
  pub pushes : (s : Seated) (m : Message) (p : Shown) (pass pass' : Sending) → s.node.waiting ≡ m ∷ p.waiting
      → IsFit s.node.setup s.node.me m.to m → slice_get s.ends.sends (place m.to m.chan) ≡ Some pass
      → (pass'.route ≡ pass.route) × (pass'.wire ≡ pass.wire) → pass' ≡ with_sent pass m
      → p ≡ record s.node { waiting = p.waiting } → StandsAsBefore s.node p → IsSeated common code names number s
      → IsSeated common code names number (record {
        node = p;
        ends = with_sends s.ends (place m.to m.chan) pass';
        closed = s.closed;
      })
  pushes s m p pass pass' waits fit at same sent is stands h =
      subst (λ (n : Shown). IsSeated common code names number (record {
        node = n;
        ends = with_sends s.ends
            (place m.to m.chan) pass';
        closed = s.closed;
      })) (sym is)
      (push s m p.waiting pass pass' waits fit at same (ap (λ (x : Sending). x.sent) sent)
      (subst (λ (n : Shown). StandsAsBefore s.node n) is stands) h)

  -- the push failed
  pub unpushed : (s : Seated) (k : ℕ) (pass pass' : Sending) → slice_get s.ends.sends k ≡ Some pass → pass' ≡ pass
      → IsSeated common code names number s → IsSeated common code names number (record s { ends = with_sends s.ends k pass' })
  unpushed s k pass pass' at same h =
      let ends : set s.ends.sends k pass' ≡ s.ends.sends = ap (λ (x : Sending). set s.ends.sends k x) same
      ∙ set_same s.ends.sends k pass at in
      subst (λ (xs : List Sending). IsSeated common code names number
      (record s { ends = record { sends = xs; recvs = s.ends.recvs } })) (sym ends) h

  -- a message was taken and kept
  pub keeps : (s : Seated) (f : ℕ) (c : Chan) (m : Message) (p : Shown) (r r' : Receiving)
      → slice_get s.ends.recvs (place f c) ≡ Some r → (r'.route ≡ r.route) × (r'.wire ≡ r.wire) → r' ≡ with_taken r m
      → closed_at s f c ≡ false → front_at s.node f c ≡ None → place f c < length s.node.fronts → IsNext s.node f c m
      → p ≡ record s.node {
        fronts = slice_set s.node.fronts (place m.from m.chan) (Some m);
        accepted = slice_set s.node.accepted (place m.from m.chan) (m.number + 1);
      } → StandsAsBefore s.node p
      → IsSeated common code names number s
      → IsSeated common code names number (record s { node = p; ends = with_recvs s.ends (place f c) r' })
  keeps s f c m p r r' at same taken opened none within fits is stands h =
      let there : place m.from m.chan ≡ place f c = ap (λ k. place k m.chan) fits.fit.on.from
      ∙ ap (λ (d : Chan). place f d) fits.chan in
      let now : p ≡ with_front s.node f c m = is
      ∙ ap (λ k. record s.node {
        fronts = slice_set s.node.fronts k (Some m);
        accepted = slice_set s.node.accepted k
            (m.number + 1);
      }) there in
      subst (λ (n : Shown). IsSeated common code names number (record s {
        node = n;
        ends = with_recvs s.ends
            (place f c) r';
      })) (sym now)
      (keep s f c m r r' at same (ap (λ (x : Receiving). x.taken) taken) opened none within
      (subst (λ (n : Shown). StandsAsBefore s.node n) now stands) h)

-- what events take of wires
pub instruction_takes : (n : Shown) → TakesFront n None (event.Instr n.me)
instruction_takes n f c e = absurd cc

pub redelivery_takes : (n : Shown) → TakesFront n None (event.Redeliver n.me)
redelivery_takes n f c e = absurd cc

pub delivery_takes : (n : Shown) (f : ℕ) (c : Chan) → TakesFront n (front_at n f c) (event.Deliver n.me f c)
delivery_takes n f c g d e = cc
