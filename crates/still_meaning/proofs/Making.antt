-- One node makes an event: it is an event of all nodes and wires.
use Rattle.std.proofs.Common.{◌≡◌, ◌∙◌, ◌≢◌, ℕ, ◌<◌, Bool, true, false, if◌then◌else◌, List, [], ◌∷◌, ◌++◌, Option, Some, None}
use Rattle.std.proofs.Common.{length, refl, ap, sym, subst, inl, inr, append_assoc}
use Rattle.std.specs.Prelude.{option_to_list, slice_get}
use Rattle.std.proofs.lemmas.Bool.{cases_eq}
use Rattle.std.proofs.lemmas.List.Elements.{filter-append}
use Rattle.tw_base.specs.declared.entry.Entry.{Entry}
use Rattle.tw_base.specs.declared.message.Chan.{Chan}
use Rattle.tw_base.specs.declared.message.Message.{Message}
use Rattle.handler_code.specs.declared.code.Code.{Code}
use Rattle.dsm_runs.specs.Beside.{RunsBeside}
use Rattle.dsm_runs.specs.Locals.{Local}
use Rattle.dsm_runs.specs.Messages.{on_wire}
use Rattle.dsm_runs.specs.Replays.{Course, ReplaysOne}
use Rattle.dsm_runs.specs.Setups.{Setup}
use Rattle.dsm_runs.specs.Worlds.{Runs, Step, Wires, World, taken, takes_from}
use Rattle.dsm_runs.proofs.Lists.{nat_eq_refl}
use Rattle.dsm_runs.proofs.Stepping.{StepsTo, course_steps}
use Rattle.dsm_runs.proofs.Turns.{changed, changed_here, changed_other, taken_elsewhere}
use Rattle.node_meaning.specs.Nodes.{Shown, front_at, onto, tally_of}
use Rattle.node_meaning.specs.Tallies.{Counts, Tally}
use Rattle.node_meaning.specs.Stands.{GoesOn, StandsFor}
use Rattle.still_meaning.specs.Stills.{GoesThrough, IsNodeAt, IsStill, StillShown, flight, front_of, row_at, tallies, tally_in}
use Rattle.still_meaning.specs.Stills.{unpushed}

-- node e.node of a makes the event of e, and comes to be `new`
pub record MakesOne (a b : StillShown) (e : Entry) (front : Option Message) (more : List Message) (old new : Shown) : Type 0 where
  pub there : slice_get a.nodes e.node ≡ Some old
  pub here : slice_get b.nodes e.node ≡ Some new
  pub away : (k : ℕ) → k ≢ e.node → slice_get b.nodes k ≡ slice_get a.nodes k
  pub count : length b.nodes ≡ length a.nodes
  pub rows : b.rows ≡ a.rows
  pub same_setup : b.setup ≡ a.setup
  pub same_code : b.code ≡ a.code
  pub taken : b.taken ≡ a.taken ++ e ∷ []
  pub node : e.node < a.setup.shape.nodes
  pub within : (f : ℕ) (c : Chan) → takes_from e.act f c ≡ true → (f < a.setup.shape.nodes) × (front ≡ front_at old f c)
  pub waits : new.waiting ≡ old.waiting ++ more
  pub setup : new.setup ≡ old.setup
  pub code : new.code ≡ old.code
  pub me : new.me ≡ old.me
  pub fronts : (f : ℕ) (c : Chan) → front_at new f c ≡ (if takes_from e.act f c then None else front_at old f c)
  pub goes : (c : Course) → StandsFor old c → GoesOn old new c e front more

-- what the event makes of the node's course, by the number that the entry names
record Turns (s : Setup) (code : Code) (k : ℕ) (c : Course) (e : Entry) (front : Option Message) (more : List Message)
    (new : Shown) (x y : Tally) : Type 0 where
  after : Course
  goes : ReplaysOne s k c e after
  takes : goes.front ≡ front
  stands : StandsFor new after
  sent : (t : ℕ) (ch : Chan) → after.sent t ch ≡ c.sent t ch ++ onto k t ch more
  counted : Counts s code k c.local front e.act x y

turns : (old new : Shown) (c : Course) (e : Entry) (front : Option Message) (more : List Message) →
    GoesOn old new c e front more → Turns old.setup old.code old.me c e front more new (tally_of old) (tally_of new)
turns old new c e front more g = record {
  after = g.after;
  goes = g.goes;
  takes = g.takes;
  stands = g.stands;
  sent = g.sent;
  counted = g.counted;
}

turns_of : (a b : StillShown) (e : Entry) (front : Option Message) (more : List Message) (old new : Shown)
    (m : MakesOne a b e front more old new) (c : Course) → IsNodeAt a e.node old c →
    Turns a.setup a.code e.node c e front more new (tally_of old) (tally_of new)
turns_of a b e front more old new m c at =
    let made = turns old new c e front more (m.goes c at.stands) in
    subst (λ (s : Setup). Turns s a.code e.node c e front more new (tally_of old) (tally_of new)) at.setup
    (subst (λ k. Turns old.setup k e.node c e front more new (tally_of old) (tally_of new)) at.code
    (subst (λ k. Turns old.setup old.code k c e front more new (tally_of old) (tally_of new)) at.me made))

-- ---- what is on the way

-- what each wire has behind the message that is taken
between : (a b : StillShown) → Wires
between a b f t c = front_of (slice_get b.nodes t) f c ++ (row_at a f t c ++ unpushed (slice_get a.nodes f) f t c)

taken_if : (b : Bool) (kept front : Option Message) (rest : List Message) → (b ≡ true → front ≡ kept) →
    option_to_list kept ++ rest ≡ (if b then option_to_list front else [])
    ++ (option_to_list (if b then None else kept) ++ rest)
taken_if true kept front rest same = ap (λ (o : Option Message). option_to_list o ++ rest) (sym (same refl))
taken_if false kept front rest same = refl

takes_it : (a b : StillShown) (e : Entry) (front : Option Message) (more : List Message) (old new : Shown)
    (m : MakesOne a b e front more old new) (f t : ℕ) (c : Chan) → flight a f t c ≡ taken e front f t c ++ between a b f t c
unfolding between
takes_it a b e front more old new m f t c = elim (cases_eq t e.node) [
  | inl same ↦ rw (same, m.there, m.here, nat_eq_refl e.node, m.fronts f c)
      (taken_if (takes_from e.act f c) (front_at old f c) front
      (row_at a f e.node c ++ unpushed (slice_get a.nodes f) f e.node c) (λ q. (m.within f c q).1))
  | inr d ↦ rw (taken_elsewhere e front f t c d, m.away t d) refl
]

puts_mine : (a b : StillShown) (e : Entry) (front : Option Message) (more : List Message) (old new : Shown)
    (m : MakesOne a b e front more old new) (t : ℕ) (c : Chan) →
    flight b e.node t c ≡ between a b e.node t c ++ onto e.node t c more
unfolding between
puts_mine a b e front more old new m t c =
    let first : List Message = front_of (slice_get b.nodes t) e.node c in
    let row : List Message = row_at a e.node t c in
    let wait : List Message = onto e.node t c old.waiting in
    let put : List Message = onto e.node t c more in
    let waits : unpushed (slice_get b.nodes e.node) e.node t c ≡ wait ++ put =
    ap (λ (o : Option Shown). unpushed o e.node t c) m.here ∙ ap (λ (ms : List Message). onto e.node t c ms) m.waits
    ∙ filter-append (on_wire e.node t c) old.waiting more in
    let old_waits : unpushed (slice_get a.nodes e.node) e.node t c ≡ wait =
    ap (λ (o : Option Shown). unpushed o e.node t c) m.there in
    let rows : row_at b e.node t c ≡ row = ap (λ (rs : List (List (List Message))). row_at (record a { rows = rs }) e.node t c)
    m.rows in
    ap (λ (r : List Message). first ++ (r ++ unpushed (slice_get b.nodes e.node) e.node t c)) rows
    ∙ ap (λ (ms : List Message). first ++ (row ++ ms)) waits
    ∙ ap (λ (ms : List Message). first ++ ms) (sym (append_assoc row wait put))
    ∙ sym (append_assoc first (row ++ wait) put)
    ∙ ap (λ (ms : List Message). (first ++ (row ++ ms)) ++ put) (sym old_waits)

puts_others : (a b : StillShown) (e : Entry) (front : Option Message) (more : List Message) (old new : Shown)
    (m : MakesOne a b e front more old new) (f t : ℕ) (c : Chan) → f ≢ e.node → flight b f t c ≡ between a b f t c
unfolding between
puts_others a b e front more old new m f t c d =
    let first : List Message = front_of (slice_get b.nodes t) f c in
    let rows : row_at b f t c ≡ row_at a f t c =
    ap (λ (rs : List (List (List Message))). row_at (record a { rows = rs }) f t c) m.rows in
    ap (λ (r : List Message). first ++ (r ++ unpushed (slice_get b.nodes f) f t c)) rows
    ∙ ap (λ (o : Option Shown). first ++ (row_at a f t c ++ unpushed o f t c)) (m.away f d)

-- ---- the run

one_some : (x y : Shown) → Some x ≡ Some y → x ≡ y
one_some x y h = cc

node_here : (a b : StillShown) (e : Entry) (front : Option Message) (more : List Message) (old new : Shown)
    (m : MakesOne a b e front more old new) (ends : ℕ → Course) (after : Course) → IsNodeAt a e.node old (ends e.node) →
    StandsFor new after
    → (k : ℕ) (x : Shown) → k ≡ e.node → slice_get b.nodes k ≡ Some x → IsNodeAt b k x (changed ends e.node after k)
node_here a b e front more old new m ends after at stands k x same q =
    let is : x ≡ new = one_some x new (sym q ∙ ap (λ j. slice_get b.nodes j) same ∙ m.here) in
    let there : IsNodeAt b e.node new after = record {
      setup = m.setup ∙ at.setup ∙ sym m.same_setup;
      code = m.code ∙ at.code
          ∙ sym m.same_code;
      me = m.me ∙ at.me;
      stands = stands;
    } in
    subst (λ j. IsNodeAt b j x (changed ends e.node after j)) (sym same)
    (subst (λ (y : Shown). IsNodeAt b e.node y (changed ends e.node after e.node)) (sym is)
    (subst (λ (c : Course). IsNodeAt b e.node new c) (sym (changed_here ends e.node after)) there))

node_there : (a b : StillShown) (e : Entry) (front : Option Message) (more : List Message) (old new : Shown)
    (m : MakesOne a b e front more old new) (ends : ℕ → Course) (after : Course)
    → (k : ℕ) (x : Shown) → k ≢ e.node → IsNodeAt a k x (ends k) → IsNodeAt b k x (changed ends e.node after k)
node_there a b e front more old new m ends after k x d at = record {
  setup = at.setup ∙ sym m.same_setup;
  code = at.code ∙ sym m.same_code;
  me = at.me;
  stands = subst (λ (c : Course). StandsFor x c) (sym (changed_other ends e.node after k d)) at.stands;
}

still_after : (a b : StillShown) (e : Entry) (front : Option Message) (more : List Message) (old new : Shown)
    (m : MakesOne a b e front more old new) (g : World) (s : IsStill a g) (taken_front : Option Message) (after : Course) →
    StandsFor new after
    → (st : StepsTo a.setup g e taken_front (changed s.ends e.node after) (flight b)) → IsStill b st.after
still_after a b e front more old new m g s taken_front after stands st =
    let back : (k : ℕ) → k < b.setup.shape.nodes → k < a.setup.shape.nodes =
    λ k l. subst (λ (u : Setup). k < u.shape.nodes) m.same_setup l in
    record {
      count = m.count ∙ s.count ∙ ap (λ (u : Setup). u.shape.nodes) (sym m.same_setup);
      ends = changed s.ends e.node after;
      nodes = λ k x q. elim (cases_eq k e.node) [
        | inl same ↦ node_here a b e front more old new m s.ends after (s.nodes e.node old m.there) stands k x same q
        | inr d ↦ node_there a b e front more old new m s.ends after k x d (s.nodes k x (sym (m.away k d) ∙ q))
      ];
      agrees = λ f t c lf lt. st.agrees f t c (back f lf) (back t lt);
      joined = record {
        locals = λ k l. st.joined.locals k (back k l);
        wires = λ f t c lf lt. st.joined.wires f t c (back f lf) (back t lt);
        next = λ f t c lf lt. st.joined.next f t c (back f lf) (back t lt);
      };
    }

beside_after : (a b : StillShown) (e : Entry) (front : Option Message) (more : List Message) (old new : Shown)
    (m : MakesOne a b e front more old new) (g h : World) (local : Local) (r : Step a.setup g e h) → local ≡ g.locals e.node →
    front ≡ r.front
    → Counts a.setup a.code e.node local front e.act (tally_of old) (tally_of new) →
    RunsBeside (Counts a.setup a.code) a.setup g (tallies a) (e ∷ []) h (tallies b)
beside_after a b e front more old new m g h local r at same counted =
    let was : tally_of old ≡ tallies a e.node = ap (λ (o : Option Shown). tally_in a.setup e.node o) (sym m.there) in
    let now : tally_of new ≡ tallies b e.node = ap (λ (o : Option Shown). tally_in b.setup e.node o) (sym m.here) in (
      h,
      tallies b,
      r,
      subst (λ (l : Local). Counts a.setup a.code e.node l r.front e.act (tallies a e.node) (tallies b e.node)) at
          (subst (λ (o : Option Message). Counts a.setup a.code e.node local o e.act (tallies a e.node) (tallies b e.node)) same
          (subst (λ (t : Tally). Counts a.setup a.code e.node local front e.act t (tallies b e.node)) was
          (subst (λ (t : Tally). Counts a.setup a.code e.node local front e.act (tally_of old) t) now counted))),
      (λ k d. ap (λ (o : Option Shown). tally_in b.setup k o) (m.away k d)
          ∙ ap (λ (u : Setup). tally_in u k (slice_get a.nodes k)) m.same_setup),
      (refl, refl),
    )

pub one_through : (a b : StillShown) (e : Entry) (front : Option Message) (more : List Message) (old new : Shown) →
    MakesOne a b e front more old new → GoesThrough a b (e ∷ []) (Runs a.setup)
one_through a b e front more old new m = record { same_setup = m.same_setup; same_code = m.same_code; taken = m.taken; ran = ran }
  where
    ran : (g : World) → IsStill a g → (h : World) × Runs a.setup g (e ∷ []) h × IsStill b h
        × RunsBeside (Counts a.setup a.code) a.setup g (tallies a) (e ∷ []) h (tallies b)
    ran g s =
        let at : IsNodeAt a e.node old (s.ends e.node) = s.nodes e.node old m.there in
        let w : Turns a.setup a.code e.node (s.ends e.node) e front more new (tally_of old) (tally_of new) =
        turns_of a b e front more old new m (s.ends e.node) at in
        let takes : (f t : ℕ) (c : Chan) → f < a.setup.shape.nodes → t < a.setup.shape.nodes →
        flight a f t c ≡ taken e w.goes.front f t c ++ between a b f t c =
        λ f t c lf lt. takes_it a b e front more old new m f t c
        ∙ ap (λ (o : Option Message). taken e o f t c ++ between a b f t c) (sym w.takes) in
        let st : StepsTo a.setup g e w.goes.front (changed s.ends e.node w.after) (flight b) =
        course_steps a.setup g e s.ends w.after (flight a) (between a b) (flight b)
        (λ t c. onto e.node t c more) w.goes m.node s.agrees s.joined (λ f c q. (m.within f c q).0) takes w.sent
        (λ t c lt. puts_mine a b e front more old new m t c)
        (λ f t c d lf lt. puts_others a b e front more old new m f t c d) in (
          st.after,
          (st.after, st.step, refl),
          still_after a b e front more old new m g s w.goes.front w.after w.stands st,
          beside_after a b e front more old new m g st.after (s.ends e.node).local st.step
              (sym (s.joined.locals e.node m.node)) (sym w.takes ∙ sym st.takes) w.counted,
        )
