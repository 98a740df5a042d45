-- Opened seats, whose wires are closed, are a state of the model.
use Rattle.std.proofs.Common.{◌≡◌, ◌∙◌, ℕ, zero, suc, ◌*◌, ◌<◌, ◌≤◌, List, [], ◌∷◌, Some, length, min, refl, ap, sym, subst}
use Rattle.std.proofs.Common.{arith}
use Rattle.std.specs.Prelude.{map, slice_get}
use Rattle.std.proofs.lemmas.List.{length-map}
use Rattle.tw_base.specs.declared.message.Chan.{Chan}
use Rattle.tw_base.specs.declared.message.Chan.TheVariants.{Zero, One}
use Rattle.tw_base.specs.declared.message.Message.{Message}
use Rattle.handler_code.specs.declared.code.Code.{Code}
use Rattle.dsm_runs.specs.Setups.{IsSetup, Setup}
use Rattle.dsm_runs.specs.Worlds.{World}
use Rattle.node_meaning.specs.Nodes.{Shown}
use Rattle.still_meaning.specs.Stills.{IsStill}
use Rattle.still_nodes.specs.Opening.{opened_still}
use Rattle.still_nodes.proofs.Cutting.{rows_have}
use Rattle.tw_wire.specs.Lending.{shown}
use Rattle.tw_wire.specs.Places.{Names, place}
use Rattle.tw_wire.specs.Wires.{AreAllEnds, AreClosed, AreEndsOf, AreNames, EndsShown}
use Rattle.tw_wire.specs.declared.ends.Ends.{Ends}
use Rattle.seat_meaning.specs.Opened.{AreOpened, OpenedSeatsAreStill}
use Rattle.seat_meaning.specs.Seats.{IsSeated, Seated}
use Rattle.node_seats.specs.declared.seat.Opened.{Opened}
use Rattle.node_runtime.specs.Places.{AreOpenedBelow, seated_of}

-- the item of which this is made
made_of : {X Y : Type 0} (v : X → Y) (xs : List X) (i : ℕ) (y : Y) → slice_get (map v xs) i ≡ Some y →
    (x : X) × (slice_get xs i ≡ Some x) × (v x ≡ y)
made_of v [] i y h = absurd cc
made_of v (x ∷ xs) zero y h = (x, refl, cc)
made_of v (x ∷ xs) (suc i) y h = made_of v xs i y h

map_twice : {X Y Z : Type 0} (v : Y → Z) (w : X → Y) (xs : List X) → map v (map w xs) ≡ map (λ x. v (w x)) xs
map_twice v w [] = refl
map_twice v w (x ∷ xs) = ap (λ ys. v (w x) ∷ ys) (map_twice v w xs)

place_below : (n t : ℕ) (c : Chan) → t < n → place t c < 2 * n
place_below n t Zero l = omega arith
place_below n t One l = omega arith

module _ (s : Setup) (code : Code) (names : Names) (os : List Opened) (below : AreOpenedBelow s code names 8 os)
    (few : s.shape.nodes ≤ 8) where
  abbrev seats : List Seated
  seats = map seated_of os

  all_opened : AreOpened s code names seats
  all_opened = record {
    count = let count : length os ≡ min 8 s.shape.nodes = below.count in let same =
        length-map os seated_of in omega (arith, same);
    each = λ i x at.
        let o = made_of seated_of os i x at in
        subst (λ (z : Seated). IsSeated s code names i z) o.2 (below.each i o.0 o.1);
  }

  ends_are : map shown (map (λ (o : Opened). o.ends) os) ≡ map (λ (x : Seated). x.ends) seats
  ends_are = map_twice shown (λ (o : Opened). o.ends) os ∙ sym (map_twice (λ (x : Seated). x.ends) seated_of os)

  nodes_are : map (λ (o : Opened). o.node) os ≡ map (λ (x : Seated). x.node) seats
  nodes_are = sym (map_twice (λ (x : Seated). x.node) seated_of os)

  every_end : (ends : List Ends) → ends ≡ map (λ (o : Opened). o.ends) os → AreAllEnds s.shape.nodes names (map shown ends)
  every_end ends is =
      subst (λ (es : List EndsShown). AreAllEnds s.shape.nodes names es) (sym (ap (map shown) is ∙ ends_are)) (
        length-map seats (λ (x : Seated). x.ends) ∙ all_opened.count,
        λ i e at.
            let x = made_of (λ (z : Seated). z.ends) seats i e at in
            subst (λ (z : EndsShown). AreEndsOf s.shape.nodes names i z) x.2 (all_opened.each i x.0 x.1).wires,
      )

  state_of :
      OpenedSeatsAreStill → (ends : List Ends) (nodes : List Shown) (left : List (List Message)) →
      ends ≡ map (λ (o : Opened). o.ends) os → nodes ≡ map (λ (o : Opened). o.node) os →
      AreClosed s.shape.nodes (map shown ends) left → (g : World) × IsStill (opened_still s code nodes left) g
  state_of law ends nodes left is nodes_of closed =
      law s code names seats left (opened_still s code nodes left) all_opened
      (subst (λ (es : List EndsShown). AreClosed s.shape.nodes es left) (ap (map shown) is ∙ ends_are) closed)
      (record {
        same_setup = refl;
        same_code = refl;
        nodes = nodes_of ∙ nodes_are;
        rows = λ f t c lf lt.
            rows_have (2 * s.shape.nodes) s.shape.nodes left f (place t c) lf (place_below s.shape.nodes t c lt);
      })

-- ---- the same of a setup, code and wires that are these

module _
    (s : Setup) (code : Code) (names : Names) (os : List Opened) (below : AreOpenedBelow s code names 8 os)
    (z : Setup) (same : z ≡ s) (valid : IsSetup z) (wires : Names) (are : wires ≡ names)
    (named : AreNames s.shape.nodes names) where
  few : s.shape.nodes ≤ 8
  few = subst (λ (u : Setup). u.shape.nodes ≤ 8) same valid.limits.nodes

  count : length wires ≡ s.shape.nodes
  count = ap length are ∙ named.rows

  pub closed_ends : (ends : List Ends) → ends ≡ map (λ (o : Opened). o.ends) os → AreAllEnds (length wires) wires (map shown ends)
  closed_ends ends is =
      subst (λ (w : Names). AreAllEnds (length wires) w (map shown ends)) (sym are)
      (subst (λ n. AreAllEnds n names (map shown ends)) (sym count) (every_end s code names os below few ends is))

  pub closed_state :
      OpenedSeatsAreStill → (k : Code) → k ≡ code → (ends : List Ends) (nodes : List Shown) (left : List (List Message)) →
      ends ≡ map (λ (o : Opened). o.ends) os → nodes ≡ map (λ (o : Opened). o.node) os →
      AreClosed (length wires) (map shown ends) left → (g : World) × IsStill (opened_still z k nodes left) g
  closed_state law k same_code ends nodes left is nodes_of closed =
      let state =
      state_of s code names os below few law ends nodes left is nodes_of
      (subst (λ n. AreClosed n (map shown ends) left) count closed) in
      subst (λ (u : Setup). (g : World) × IsStill (opened_still u k nodes left) g) (sym same)
      (subst (λ (x : Code). (g : World) × IsStill (opened_still s x nodes left) g) (sym same_code) state)
