-- All seats, once no thread works for them, are a state of the model.
use Rattle.std.proofs.Common.{◌≡◌, ◌∙◌, ◌⊎◌, ℕ, ◌<◌, ◌≤◌, Bool, true, false, List, [], ◌∷◌, ◌++◌, Option, Some, None, length}
use Rattle.std.proofs.Common.{map, refl, ap, sym, subst, arith, inl, inr, append_assoc, get_or}
use Rattle.std.specs.Prelude.{option_to_list, slice_get}
use Rattle.std.specs.Option.{option_and_then, option_map}
use Rattle.std.proofs.lemmas.List.{length-map}
use Rattle.std.proofs.lemmas.Option.{slice_get-map, slice_get_cases}
use Rattle.tw_base.specs.declared.message.Chan.{Chan}
use Rattle.tw_base.specs.declared.message.Message.{Message}
use Rattle.handler_code.specs.declared.code.Code.{Code}
use Rattle.dsm_runs.specs.Merges.{joined}
use Rattle.dsm_runs.specs.Replays.{Course, begin}
use Rattle.dsm_runs.specs.Setups.{Setup}
use Rattle.dsm_runs.specs.Worlds.{World}
use Rattle.node_meaning.specs.Nodes.{Shown, front_at, onto}
use Rattle.node_meaning.specs.Stands.{StandsFor}
use Rattle.still_meaning.specs.Stills.{IsNodeAt, IsStill, StillShown, flight, front_of, row_at, unpushed}
use Rattle.tw_wire.specs.Places.{Names, place}
use Rattle.tw_wire.specs.Wires.{AreClosed, EndsShown, left_at, sent_of, taken_of}
use Rattle.seat_meaning.specs.Opened.{AreNodesOf, AreOpened}
use Rattle.seat_meaning.specs.Seats.{Came, IsNext, IsSeated, Seated, came_at, closed_at, pushed_at}
use Rattle.seat_meaning.proofs.Sending.{next_of_sent}

-- ---- lists

there_is : {X : Type 0} (xs : List X) (i : ℕ) → i < length xs → (x : X) × (slice_get xs i ≡ Some x)
there_is {X} xs i l = here (slice_get_cases xs i).1
  where
    here :
        ((x : X) × (i < length xs) × (slice_get xs i ≡ Some x) × (get_or xs i x ≡ x))
        ⊎ ((length xs ≤ i) × (slice_get xs i ≡ None)) → (x : X) × (slice_get xs i ≡ Some x)
    here (inl f) = (f.0, f.2)
    here (inr past) = let far = past.0 in absurd (omega (arith, l, far))

-- the item of which this is made
made_of : {X Y : Type 0} (v : X → Y) (xs : List X) (i : ℕ) (y : Y) → slice_get (map v xs) i ≡ Some y →
    (x : X) × (slice_get xs i ≡ Some x) × (v x ≡ y)
made_of {X} {Y} v xs i y h = go (slice_get xs i) refl (sym (slice_get-map v xs i) ∙ h)
  where
    go : (o : Option X) → slice_get xs i ≡ o → option_map v o ≡ Some y → (x : X) × (slice_get xs i ≡ Some x) × (v x ≡ y)
    go None e q = absurd cc
    go (Some x) e q = (x, e, cc)

-- ---- what came from a wire, where all that was sent fits

came_open : (b : Bool) (n : Shown) (f : ℕ) (c : Chan) (known came : List Message) → Came b n f c known came →
    ((m : Message) → came ≡ known ++ m ∷ [] → IsNext n f c m) → came ≡ known
came_open false n f c known came h fits = h
came_open true n f c known came h fits = absurd (h.2 (fits h.0 h.1))

-- ---- the courses

module _ (s : Setup) (code : Code) (names : Names) (seats : List Seated) (opened : AreOpened s code names seats) where
  abbrev course_in : (i : ℕ) (o : Option Seated) → slice_get seats i ≡ o → Course
  course_in i None e = begin s i
  course_in i (Some x) e = (opened.each i x e).course

  abbrev course_at : ℕ → Course
  course_at i = course_in i (slice_get seats i) refl

  -- the seat at a number, for the course that is there
  seated_at : (i : ℕ) (x : Seated) → slice_get seats i ≡ Some x → (w : IsSeated s code names i x) × (w.course ≡ course_at i)
  seated_at i x there = go (slice_get seats i) refl there
    where
      go : (o : Option Seated) (e : slice_get seats i ≡ o) → o ≡ Some x →
          (w : IsSeated s code names i x) × (w.course ≡ course_in i o e)
      go None e q = absurd cc
      go (Some y) e q =
          let same : y ≡ x = cc in
          let here : IsSeated s code names i y = opened.each i y e in
          subst (λ (z : Seated). (w : IsSeated s code names i z) × (w.course ≡ here.course)) same (here, refl)

  module _ (left : List (List Message)) (closed : AreClosed s.shape.nodes (map (λ x. x.ends) seats) left) where
    -- on each wire what was taken and then what is left is what was pushed
    wire_is :
        (f t : ℕ) (c : Chan) (x y : Seated) → slice_get seats f ≡ Some x → slice_get seats t ≡ Some y → f < s.shape.nodes →
        t < s.shape.nodes → pushed_at x.ends t c ≡ came_at y.ends f c ++ left_at s.shape.nodes left f t c
    wire_is f t c x y from to lf lt =
        let sends : slice_get (map (λ (z : Seated). z.ends) seats) f ≡ Some x.ends =
        slice_get-map (λ (z : Seated). z.ends) seats f ∙ ap (λ (o : Option Seated). option_map (λ (z : Seated). z.ends) o) from in
        let recvs : slice_get (map (λ (z : Seated). z.ends) seats) t ≡ Some y.ends =
        slice_get-map (λ (z : Seated). z.ends) seats t ∙ ap (λ (o : Option Seated). option_map (λ (z : Seated). z.ends) o) to in
        sym (ap (λ (o : Option EndsShown). sent_of (option_and_then (λ (e : EndsShown). slice_get e.sends (place t c)) o)) sends)
        ∙ closed.1 f t c lf lt
        ∙ ap (λ (ms : List Message). ms ++ left_at s.shape.nodes left f t c)
        (ap (λ (o : Option EndsShown). taken_of (option_and_then (λ (e : EndsShown). slice_get e.recvs (place f c)) o)) recvs)

    -- what came to a seat is what its node took in of the wire, and keeps
    came_is :
        (f t : ℕ) (c : Chan) (x y : Seated) (w : IsSeated s code names f x) (v : IsSeated s code names t y) →
        slice_get seats f ≡ Some x → slice_get seats t ≡ Some y → f < s.shape.nodes → t < s.shape.nodes →
        came_at y.ends f c ≡ v.course.took f c ++ option_to_list (front_at y.node f c)
    came_is f t c x y w v from to lf lt =
        let known : List Message = v.course.took f c ++ option_to_list (front_at y.node f c) in
        came_open (closed_at y f c) y.node f c known (came_at y.ends f c) (v.came f c lf) fits
      where
        fits : (m : Message) → came_at y.ends f c ≡ (v.course.took f c ++ option_to_list (front_at y.node f c)) ++ m ∷ [] →
            IsNext y.node f c m
        fits m h =
            let known : List Message = v.course.took f c ++ option_to_list (front_at y.node f c) in
            let rest : List Message = left_at s.shape.nodes left f t c in
            let wait : List Message = onto f t c x.node.waiting in
            let is : w.course.sent t c ≡ known ++ m ∷ (rest ++ wait) =
            w.pushed t c lt
            ∙ ap (λ (ms : List Message). ms ++ wait) (wire_is f t c x y from to lf lt ∙ ap (λ (ms : List Message). ms ++ rest) h)
            ∙ append_assoc (known ++ m ∷ []) rest wait
            ∙ append_assoc known (m ∷ []) (rest ++ wait) in
            next_of_sent s f t c x.node y.node w.course v.course m (rest ++ wait) w.same_setup w.me v.same_setup v.me w.stands
            v.stands is

    module _ (a : StillShown) (of : AreNodesOf s code seats left a) where
      node_there : (i : ℕ) (x : Seated) → slice_get seats i ≡ Some x → slice_get a.nodes i ≡ Some x.node
      node_there i x there =
          ap (λ (ns : List Shown). slice_get ns i) of.nodes
          ∙ slice_get-map (λ (z : Seated). z.node) seats i
          ∙ ap (λ (o : Option Seated). option_map (λ (z : Seated). z.node) o) there

      seat_there : (i : ℕ) → i < s.shape.nodes → (x : Seated) × (slice_get seats i ≡ Some x)
      seat_there i l = there_is seats i (omega (arith, l, opened.count))

      flight_is :
          (f t : ℕ) (c : Chan) (x y : Seated) → slice_get seats f ≡ Some x → slice_get seats t ≡ Some y → f < s.shape.nodes →
          t < s.shape.nodes →
          flight a f t c ≡ option_to_list (front_at y.node f c) ++ (left_at s.shape.nodes left f t c ++ onto f t c x.node.waiting)
      flight_is f t c x y from to lf lt =
          let first = option_to_list (front_at y.node f c) in
          let row : List Message = row_at a f t c in
          ap (λ (o : Option Shown). front_of o f c ++ (row ++ unpushed (slice_get a.nodes f) f t c)) (node_there t y to)
          ∙ ap (λ (o : Option Shown). first ++ (row ++ unpushed o f t c)) (node_there f x from)
          ∙ ap (λ (ms : List Message). first ++ (ms ++ onto f t c x.node.waiting)) (of.rows f t c lf lt)

      agrees : (f t : ℕ) (c : Chan) → f < s.shape.nodes → t < s.shape.nodes →
          (course_at f).sent t c ≡ (course_at t).took f c ++ flight a f t c
      agrees f t c lf lt =
          let x = seat_there f lf in
          let y = seat_there t lt in
          let w = seated_at f x.0 x.1 in
          let v = seated_at t y.0 y.1 in
          let took : List Message = v.0.course.took f c in
          let first : List Message = option_to_list (front_at y.0.node f c) in
          let rest : List Message = left_at s.shape.nodes left f t c in
          let wait : List Message = onto f t c x.0.node.waiting in
          let wire = wire_is f t c x.0 y.0 x.1 y.1 lf lt in
          let came = came_is f t c x.0 y.0 w.0 v.0 x.1 y.1 lf lt in
          ap (λ (k : Course). k.sent t c) (sym w.1)
          ∙ w.0.pushed t c lt
          ∙ ap (λ (ms : List Message). ms ++ wait) (wire ∙ ap (λ (ms : List Message). ms ++ rest) came)
          ∙ append_assoc (took ++ first) rest wait
          ∙ append_assoc took first (rest ++ wait)
          ∙ ap (λ (ms : List Message). took ++ ms) (sym (flight_is f t c x.0 y.0 x.1 y.1 lf lt))
          ∙ ap (λ (k : Course). k.took f c ++ flight a f t c) v.1

      node_at : (i : ℕ) (n : Shown) → slice_get a.nodes i ≡ Some n → IsNodeAt a i n (course_at i)
      node_at i n there =
          let mine = sym (ap (λ (ns : List Shown). slice_get ns i) of.nodes) ∙ there in
          let x = made_of (λ (z : Seated). z.node) seats i n mine in
          let w = seated_at i x.0 x.1 in
          let here : IsNodeAt a i x.0.node (course_at i) = record {
            setup = w.0.same_setup ∙ sym of.same_setup;
            code = w.0.same_code ∙ sym of.same_code;
            me = w.0.me;
            stands = subst (λ (k : Course). StandsFor x.0.node k) w.1 w.0.stands;
          } in
          subst (λ (z : Shown). IsNodeAt a i z (course_at i)) x.2 here

      still : IsStill a (joined course_at (flight a))
      still =
          let back : (k : ℕ) → k < a.setup.shape.nodes → k < s.shape.nodes = λ k l.
          subst (λ (u : Setup). k < u.shape.nodes) of.same_setup l in
          record {
            count = ap (λ (ns : List Shown). length ns) of.nodes ∙ length-map seats (λ (z : Seated). z.node) ∙ opened.count
                ∙ ap (λ (u : Setup). u.shape.nodes) (sym of.same_setup);
            ends = course_at;
            nodes = node_at;
            agrees = λ f t c lf lt. agrees f t c (back f lf) (back t lt);
            joined = record { locals = λ i l. refl; wires = λ f t c lf lt. refl; next = λ f t c lf lt. refl };
          }

pub opened_still :
    (s : Setup) (code : Code) (names : Names) (seats : List Seated) (left : List (List Message)) (a : StillShown) →
    AreOpened s code names seats → AreClosed s.shape.nodes (map (λ x. x.ends) seats) left → AreNodesOf s code seats left a →
    (g : World) × IsStill a g
opened_still s code names seats left a opened closed of =
    (joined (course_at s code names seats opened) (flight a), still s code names seats opened left closed a of)
