-- One node makes an event: what becomes of all nodes, and of what is on the way.
use Rattle.std.proofs.Common.{◌≡◌, ◌≢◌, ◌∙◌, ℕ, ◌-◌, ◌<◌, Bool, true, false, if◌then◌else◌, List, [], ◌∷◌, ◌++◌, ◌⊎◌, Option}
use Rattle.std.proofs.Common.{Some, None, Result, Ok, Err, length, length-append, get_or, refl, ap, sym, subst, arith, inl, inr}
use Rattle.std.specs.Prelude.{OnErr, OnOk, option_to_list, slice_get, slice_set}
use Rattle.std.specs.List.{slice_index_or}
use Rattle.std.proofs.lemmas.Bool.{cases_eq}
use Rattle.std.proofs.lemmas.List.{length-set}
use Rattle.std.proofs.lemmas.Option.{same_Some, slice_get_within}
use Rattle.tw_base.specs.declared.entry.Entry.{Entry}
use Rattle.tw_base.specs.declared.entry.Event.{Event}
use Rattle.tw_base.specs.declared.entry.Event.TheVariants as event
use Rattle.tw_base.specs.declared.memory.Memory.{Memory}
use Rattle.tw_base.specs.declared.message.Chan.{Chan}
use Rattle.tw_base.specs.declared.message.Chan.TheVariants.{Zero, One}
use Rattle.tw_base.specs.declared.message.Message.{Message}
use Rattle.dsm_runs.specs.Messages.{place}
use Rattle.dsm_runs.specs.Setups.{Setup}
use Rattle.dsm_runs.specs.Worlds.{Runs, takes_from}
use Rattle.node_acts.proofs.Sparing.{tally_same}
use Rattle.node_meaning.specs.Nodes.{Shown, front_at, onto, tally_of, test_of}
use Rattle.still_meaning.specs.Laws.{IsFrontOf, node_of}
use Rattle.still_meaning.specs.Stills.{GoesThrough, IsSpread, AreWhole, Passes, StillShown, flight, front_of, row_at, unpushed}
use Rattle.still_meaning.proofs.Going.{through_more}
use Rattle.still_meaning.proofs.Made.{made_through, taken_at}
use Rattle.still_meaning.proofs.Passing.{passes_still, passes_through, set_here, set_other}
use Rattle.still_nodes.proofs.Fronts.{StaysAs, one_stays}
use Rattle.still_nodes.proofs.Lists.{at_end, set_as, set_twice}
use Rattle.still_nodes.proofs.Moving.{in_nodes}
use Rattle.still_nodes.proofs.Parts.{node_seen}
use Rattle.still_nodes.proofs.Places.{spread_waits}
use Rattle.still_nodes.specs.Handing.{IsFilled, IsSpreadBut, Refills, waiting_of}
use Rattle.still_nodes.specs.Making.{Acts, IsWithin, Made, MadeAtMost, MakesRoom, MayMake, NodeActs, NodeMakes, RefillsAfter}
use Rattle.still_nodes.specs.Making.{none, one}

-- ---- room is made

-- node i of these is another
abbrev with_node : StillShown → ℕ → Shown → StillShown
with_node a i n = record a { nodes = slice_set a.nodes i n }

room_stays : (old ready : Shown) → MakesRoom old ready → StaysAs old ready
room_stays old ready room = record {
  setup = ap (λ (n : Shown). n.setup) room.same;
  code = ap (λ (n : Shown). n.code) room.same;
  me = ap (λ (n : Shown). n.me) room.same;
  tally = ap (λ (n : Shown). tally_of n) room.same ∙ sym (tally_same old ready.ready ready.conts.spare);
  stands = room.stands;
}

room_flight : (a : StillShown) (i : ℕ) (old ready : Shown) → slice_get a.nodes i ≡ Some old → MakesRoom old ready →
    (f t : ℕ) (c : Chan) → flight (with_node a i ready) f t c ≡ flight a f t c
room_flight a i old ready there room f t c =
    ap (λ (ms : List Message). ms ++ (row_at a f t c ++ unpushed (slice_get (slice_set a.nodes i ready) f) f t c))
    (set_as a.nodes i old ready (λ (o : Option Shown). front_of o f c) there
    (ap (λ (n : Shown). option_to_list (front_at n f c)) room.same) t)
    ∙ ap (λ (ms : List Message). front_of (slice_get a.nodes t) f c ++ (row_at a f t c ++ ms))
    (set_as a.nodes i old ready (λ (o : Option Shown). unpushed o f t c) there
    (ap (λ (n : Shown). onto f t c n.waiting) room.same) f)

-- Memory that a node took changes nothing.
pub room_passes : (a : StillShown) (i : ℕ) (old ready : Shown) → slice_get a.nodes i ≡ Some old → MakesRoom old ready →
    Passes a (with_node a i ready)
room_passes a i old ready there room = record {
  same_setup = refl;
  same_code = refl;
  taken = refl;
  count = length-set a.nodes i ready;
  nodes = one_stays a (with_node a i ready) i old ready there refl (room_stays old ready room);
  flight = λ f t c lf lt. room_flight a i old ready there room f t c;
}

-- ---- the event

-- Memory that a node took leaves its tests.
pub room_tests : (old ready : Shown) (e : Event) → MakesRoom old ready → test_of ready e ≡ test_of old e
room_tests old ready (event.Instr i) room = ap (λ (n : Shown). test_of n (event.Instr i)) room.same
room_tests old ready (event.Redeliver i) room = ap (λ (n : Shown). test_of n (event.Redeliver i)) room.same
room_tests old ready (event.Deliver i f c) room = ap (λ (n : Shown). test_of n (event.Deliver i f c)) room.same

-- The entry of the event is the last of the node's log.
pub last_is : (old new : Shown) (e : Event) (m : NodeMakes old new e) →
    slice_get new.log (length new.log - 1) ≡ Some m.makes.entry
last_is old new e m =
    let at : length (old.log ++ m.makes.entry ∷ []) - 1 ≡ length old.log =
    omega (arith, length-append old.log (m.makes.entry ∷ [])) in
    ap (λ (l : List Entry). slice_get l (length l - 1)) m.makes.log ∙ ap (λ k. slice_get (old.log ++ m.makes.entry ∷ []) k) at
    ∙ at_end old.log m.makes.entry

pub acted : (old ready new : Shown) (was mid now : List Entry) (e : Event) (entry : Entry) → MakesRoom old ready →
    NodeMakes ready new e → mid ≡ was → now ≡ mid ++ entry ∷ [] → slice_get new.log (length new.log - 1) ≡ Some entry →
    NodeActs old new was now e
acted old ready new was mid now e entry room m same put last = record {
  ready = ready;
  room = room;
  made = m;
  taken =
      put ∙ ap (λ (l : List Entry). l ++ entry ∷ []) same
      ∙ ap (λ (x : Entry). was ++ x ∷ []) (same_Some entry m.makes.entry (sym last ∙ last_is ready new e m));
}

-- What a node keeps of a wire stays, but for the message that the event delivers.
kept : (old ready new : Shown) (e : Event) (i f : ℕ) (c : Chan) → MakesRoom old ready → NodeMakes ready new e → node_of e ≡ i →
    e ≢ event.Deliver i f c → front_at new f c ≡ front_at old f c
kept old ready new e i f c room made node d = go (takes_from made.makes.entry.act f c) refl
  where
    go : (b : Bool) → takes_from made.makes.entry.act f c ≡ b → front_at new f c ≡ front_at old f c
    go true h =
        let is : e ≡ event.Deliver made.makes.entry.node f c = sym made.makes.tells
        ∙ taken_at made.makes.entry.node made.makes.entry.act f c h in
        let at : made.makes.entry.node ≡ i = sym (ap (λ (v : Event). node_of v) is) ∙ node in
        absurd (d (is ∙ ap (λ k. event.Deliver k f c) at))
    go false h =
        made.makes.fronts f c ∙ ap (λ b. if b then None else front_at ready f c) h ∙ ap (λ (n : Shown). front_at n f c) room.same

module _ (a b : StillShown) (i : ℕ) (e : Event) (old new : Shown) (acts : NodeActs old new a.taken b.taken e)
    (there : slice_get a.nodes i ≡ Some old) (me : old.me ≡ i) (setup : old.setup ≡ a.setup) (node : node_of e ≡ i)
    (within : i < a.setup.shape.nodes)
    (same_setup : b.setup ≡ a.setup) (same_code : b.code ≡ a.code) (same_rows : b.rows ≡ a.rows)
    (nodes : b.nodes ≡ slice_set a.nodes i new) where
  here : slice_get (slice_set a.nodes i acts.ready) i ≡ Some acts.ready
  here = set_here a.nodes i acts.ready (slice_get_within a.nodes i old there)

  me_now : acts.ready.me ≡ i
  me_now = ap (λ (n : Shown). n.me) acts.room.same ∙ me

  setup_now : acts.ready.setup ≡ a.setup
  setup_now = ap (λ (n : Shown). n.setup) acts.room.same ∙ setup

  goes : GoesThrough a b (acts.made.makes.entry ∷ []) (Runs a.setup)
  goes =
      through_more a (with_node a i acts.ready) b [] (acts.made.makes.entry ∷ [])
      (passes_through a (with_node a i acts.ready) (room_passes a i old acts.ready there acts.room))
      (made_through (with_node a i acts.ready) b acts.ready new acts.made.front e acts.made.makes (node ∙ sym me_now)
      (ap (λ k. slice_get (slice_set a.nodes i acts.ready) k) me_now ∙ here)
      (subst (λ k. k < a.setup.shape.nodes) (sym me_now) within)
      (subst (λ (s : Setup). IsFrontOf s.shape.nodes acts.ready e acts.made.front) setup_now acts.made.takes) same_setup
      same_code same_rows
      (nodes ∙ sym (set_twice a.nodes i acts.ready new)
      ∙ ap (λ k. slice_set (slice_set a.nodes i acts.ready) k new) (sym me_now)) acts.taken)

  away : (k : ℕ) → k ≢ i → slice_get b.nodes k ≡ slice_get a.nodes k
  away k d = ap (λ (ns : List Shown). slice_get ns k) nodes ∙ set_other a.nodes i k new d

  row_same : (f t : ℕ) (c : Chan) → row_at b f t c ≡ row_at a f t c
  row_same f t c = ap (λ (rows : List (List (List Message))). slice_index_or (slice_index_or rows f []) (place t c) []) same_rows

  now_here : (n : Shown) → slice_get b.nodes i ≡ Some n → n ≡ new
  now_here n at =
      same_Some n new (sym at ∙ ap (λ (ns : List Shown). slice_get ns i) nodes
      ∙ set_here a.nodes i new (slice_get_within a.nodes i old there))

  filled_here : (f : ℕ) (c : Chan) → e ≢ event.Deliver i f c → IsFilled a f i c → IsFilled b f i c
  filled_here f c d h = λ n at free. row_same f i c
      ∙ h old there (sym (kept old acts.ready new e i f c acts.room acts.made node d)
      ∙ ap (λ (x : Shown). front_at x f c) (sym (now_here n at)) ∙ free)

  filled : (f t : ℕ) (c : Chan) → e ≢ event.Deliver t f c → IsFilled a f t c → IsFilled b f t c
  filled f t c d h = elim (cases_eq t i) [
    | inl q ↦ subst (λ k. IsFilled b f k c) (sym q)
        (filled_here f c (λ is. d (is ∙ ap (λ k. event.Deliver k f c) (sym q))) (subst (λ k. IsFilled a f k c) q h))
    | inr d2 ↦ λ n at free. row_same f t c ∙ h n (sym (away t d2) ∙ at) free
  ]

  pub acts_on : Acts a b e
  acts_on = record {
    made = record { entry = acts.made.makes.entry; tells = acts.made.makes.tells; goes = goes };
    away = λ k d. away k (λ q. d (q ∙ sym node));
    filled = filled;
  }

-- ---- in the state of all

-- node i became this one, and these were taken
abbrev after : StillShown → ℕ → Shown → List Entry → StillShown
after a i n taken = record a { nodes = slice_set a.nodes i n; taken = taken }

within_node : (nodes : ℕ) (e : Event) → IsWithin nodes e → node_of e < nodes
within_node nodes (event.Instr i) l = l
within_node nodes (event.Redeliver i) l = l
within_node nodes (event.Deliver i f c) l = l.0

pub event_seen : (s : StillShown) (w : AreWhole s) (e : Event) (i : ℕ) (n : Shown) →
    i ≡ node_of e → IsWithin s.setup.shape.nodes e → n ≡ get_or s.nodes i n → slice_get s.nodes (node_of e) ≡ Some n
event_seen s w e i n at within is =
    node_seen s.nodes i (node_of e) n at (in_nodes s w (node_of e) (within_node s.setup.shape.nodes e within)) is

-- what the event of a node of these asks for
pub record MayAct (n : Shown) (e : Event) : Type 0 where
  pub me : node_of e ≡ n.me
  pub within : IsWithin n.setup.shape.nodes e
  pub may : test_of n e ≡ true

pub may_act : (a s : StillShown) (w : AreWhole a) (e : Event) (i : ℕ) (n : Shown) → a ≡ s → MayMake s e → i ≡ node_of e →
    n ≡ get_or a.nodes i n → MayAct n e
may_act a s w e i n view may at is =
    let here : MayMake a e = subst (λ (x : StillShown). MayMake x e) (sym view) may in
    let there : slice_get a.nodes (node_of e) ≡ Some n = event_seen a w e i n at here.0 is in
    record {
      me = sym (w.still.nodes (node_of e) n there).me;
      within = subst (λ (u : Setup). IsWithin u.shape.nodes e) (sym (w.still.nodes (node_of e) n there).setup) here.0;
      may = here.1 n there;
    }

module _ (a s : StillShown) (w : AreWhole a) (e : Event) (i : ℕ) (old new : Shown) (taken : List Entry) (view : a ≡ s)
    (may : MayMake s e) (at : i ≡ node_of e) (is : old ≡ get_or a.nodes i old) where
  placed : slice_get a.nodes i ≡ Some old
  placed =
      ap (λ k. slice_get a.nodes k) at ∙ event_seen a w e i old at (subst (λ (x : StillShown). MayMake x e) (sym view) may).0 is

  acts_here : NodeActs old new a.taken taken e → Acts a (after a i new taken) e
  acts_here acts =
      let n = w.still.nodes i old placed in
      let l : node_of e < a.setup.shape.nodes =
      within_node a.setup.shape.nodes e (subst (λ (x : StillShown). MayMake x e) (sym view) may).0 in
      acts_on a (after a i new taken) i e old new acts placed n.me n.setup (sym at)
      (subst (λ k. k < a.setup.shape.nodes) (sym at) l) refl refl refl refl

  room_here : MakesRoom old new → taken ≡ a.taken → Passes a (after a i new taken)
  room_here room same = subst (λ (t : List Entry). Passes a (after a i new t)) (sym same) (room_passes a i old new placed room)

  pub act_whole : (r : Result (Unit {0}) Memory) → OnOk r (NodeActs old new a.taken taken e) → OnErr r (MakesRoom old new) →
      OnErr r (taken ≡ a.taken) → AreWhole (after a i new taken)
  act_whole (Ok x) acts room same =
      let ran = (acts_here acts).made.goes.ran w.state w.still in
      record { setup = w.setup; rows = w.rows; places = w.places; state = ran.0; still = ran.2 }
  act_whole (Err x) acts room same =
      record {
        setup = w.setup;
        rows = w.rows;
        places = w.places;
        state = w.state;
        still = passes_still a (after a i new taken) w.state (room_here room same) w.still;
      }

  pub act_acts : (r : Result (Unit {0}) Memory) → OnOk r (NodeActs old new a.taken taken e) →
      OnOk r (Acts s (after a i new taken) e)
  act_acts (Ok x) acts = subst (λ (y : StillShown). Acts y (after a i new taken) e) view (acts_here acts)
  act_acts (Err x) acts = tt

  pub act_passes : (r : Result (Unit {0}) Memory) → OnErr r (MakesRoom old new) → OnErr r (taken ≡ a.taken) →
      OnErr r (Passes s (after a i new taken))
  act_passes (Ok x) room same = tt
  act_passes (Err x) room same = subst (λ (y : StillShown). Passes y (after a i new taken)) view (room_here room same)

-- ---- the wire of a delivery

chan_cases : (c d : Chan) → (c ≡ d) ⊎ (c ≢ d)
chan_cases Zero Zero = inl refl
chan_cases One One = inl refl
chan_cases Zero One = inr (λ q. cc)
chan_cases One Zero = inr (λ q. cc)

receiver_same : {t u f g : ℕ} {c d : Chan} → event.Deliver t f c ≡ event.Deliver u g d → u ≡ t
receiver_same h = cc

sender_same : {t u f g : ℕ} {c d : Chan} → event.Deliver t f c ≡ event.Deliver u g d → g ≡ f
sender_same h = cc

chan_same : {t u f g : ℕ} {c d : Chan} → event.Deliver t f c ≡ event.Deliver u g d → d ≡ c
chan_same h = cc

-- after a delivery the wire is filled
pub refills_after : (a b : StillShown) (e : Event) (t f : ℕ) (c : Chan) → e ≡ event.Deliver t f c → Refills a b f t c →
    RefillsAfter a b e
refills_after a b e t f c is r = subst (λ (v : Event). RefillsAfter a b v) (sym is) (record {
  passes = r.passes;
  away = r.away;
  waits = r.waits;
  filled = filled;
})
  where
    filled : (g u : ℕ) (d : Chan) → (event.Deliver t f c ≢ event.Deliver u g d → IsFilled a g u d) → IsFilled b g u d
    filled g u d h = at (cases_eq u t) (cases_eq g f) (chan_cases d c)
      where
        at : (u ≡ t) ⊎ (u ≢ t) → (g ≡ f) ⊎ (g ≢ f) → (d ≡ c) ⊎ (d ≢ c) → IsFilled b g u d
        at (inr other) y z = r.filled g u d (h (λ same. other (receiver_same same)))
        at (inl p) (inr other) z = r.filled g u d (h (λ same. other (sender_same same)))
        at (inl p) (inl q) (inr other) = r.filled g u d (h (λ same. other (chan_same same)))
        at (inl p) (inl q) (inl x) =
            subst (λ (y : Chan). IsFilled b g u y) (sym x)
            (subst (λ k. IsFilled b k u c) (sym q) (subst (λ k. IsFilled b f k c) (sym p) r.here))

-- ---- the whole

-- An event stays made where messages are handed over afterwards.
pub made_and_passed : (a b c : StillShown) (e : Event) → Made a b e → Passes b c → Made a c e
made_and_passed a b c e made passes = record {
  entry = made.entry;
  tells = made.tells;
  goes = through_more a b c (made.entry ∷ []) [] made.goes (passes_through b c passes);
}

pub none_made : (r : Result (Unit {0}) Memory) (a b : StillShown) (e : Event) → Passes a b → OnErr r (MadeAtMost a b e)
none_made (Ok x) a b e passes = tt
none_made (Err x) a b e passes = none (passes_through a b passes)

pub one_made : (r : Result (Unit {0}) Memory) (a b : StillShown) (e : Event) → Made a b e → OnErr r (MadeAtMost a b e)
one_made (Ok x) a b e made = tt
one_made (Err x) a b e made = one made

-- Before messages are handed out again nothing waits but at the event's node, and where nothing is kept nothing follows.
pub refilled_but : (a b c : StillShown) (e : Event) → IsSpread a → Acts a b e → RefillsAfter b c e → IsSpreadBut c (node_of e)
refilled_but a b c e spread acts refills = record {
  out = λ k d. refills.waits k ∙ ap (λ (o : Option Shown). waiting_of o) (acts.away k d) ∙ spread_waits a k spread;
  filled = λ f t d l.
      let within : f < a.setup.shape.nodes =
      subst (λ (s : Setup). f < s.shape.nodes) (refills.passes.same_setup ∙ acts.made.goes.same_setup) l in
      refills.filled f t d (λ no. acts.filled f t d no (λ n there free. spread.fronts f t d n there within free));
}
