-- What a node does with one end keeps all its ends those of its wires.
use Rattle.std.proofs.Common.{◌≡◌, ◌≢◌, ℕ, zero, suc, List, [], ◌∷◌, Some, set, slice_get, refl, ap, sym, ◌∙◌, subst, inl, inr}
use Rattle.std.proofs.Common.{◌⊎◌, arith, length-set}
use Rattle.std.specs.Global.{Global}
use Rattle.crossbeam_queue.specs.SegTies.{SegId}
use Rattle.tw_base.specs.declared.message.Chan.{Chan}
use Rattle.tw_wire.specs.declared.route.Route.{Route}
use Rattle.tw_wire.specs.Places.{place, route, Names, name_at}
use Rattle.tw_wire.specs.Sides.{Sending, Receiving}
use Rattle.tw_wire.specs.Wires.{EndsShown, IsNamed, AreEndsOf}

-- an item after one was replaced
get-set : {A : Type 0} (xs : List A) (k : ℕ) (y : A) (j : ℕ) (x : A) → slice_get (set xs k y) j ≡ Some x
    → ((j ≡ k) × (y ≡ x)) ⊎ ((j ≢ k) × (slice_get xs j ≡ Some x))
get-set [] k y j x h = absurd cc
get-set (z ∷ xs) zero y zero x h = inl (refl, cc)
get-set (z ∷ xs) zero y (suc j) x h = inr ((λ e. cc), h)
get-set (z ∷ xs) (suc k) y zero x h = inr ((λ e. cc), h)
get-set (z ∷ xs) (suc k) y (suc j) x h =
    elim (get-set xs k y j x h) [ inl a ↦ inl (ap suc a.0, a.1) | inr b ↦ inr ((λ e. b.0 (omega arith)), b.1) ]

-- an end of the wire from f to t on channel c
abbrev IsEnd : Names → ℕ → ℕ → Chan → Route → SegId Global → Type 0
IsEnd names f t c r w = (r ≡ route f t c) × (name_at names f t c ≡ Some w)

named : (names : Names) (f t : ℕ) (c : Chan) (r : Route) (w : SegId Global) → IsEnd names f t c r w → IsNamed names r w
named names f t c r w h = subst (λ (x : Route). IsNamed names x w) (sym h.0) h.1

-- the pass that is lent has its wire among these
pub send-named : (n : ℕ) (names : Names) (me : ℕ) (e : EndsShown) (t : ℕ) (c : Chan) (s : Sending) → AreEndsOf n names me e
    → slice_get e.sends (place t c) ≡ Some s → IsNamed names s.route s.wire
send-named n names me e t c s h at = named names me t c s.route s.wire (h.outs.1 t c s at)

pub recv-named : (n : ℕ) (names : Names) (me : ℕ) (e : EndsShown) (f : ℕ) (c : Chan) (r : Receiving) → AreEndsOf n names me e
    → slice_get e.recvs (place f c) ≡ Some r → IsNamed names r.route r.wire
recv-named n names me e f c r h at = named names f me c r.route r.wire (h.ins.1 f c r at)

moved : (names : Names) (f t : ℕ) (c : Chan) (r r' : Route) (w w' : SegId Global) → r' ≡ r → w' ≡ w → IsEnd names f t c r w
    → IsEnd names f t c r' w'
moved names f t c r r' w w' a b h = (a ∙ h.0, h.1 ∙ ap (λ (x : SegId Global). Some x) (sym b))

-- after a push
pub send-keeps : (n : ℕ) (names : Names) (me : ℕ) (e : EndsShown) (t : ℕ) (c : Chan) (s s' : Sending) → AreEndsOf n names me e
    → slice_get e.sends (place t c) ≡ Some s → (s'.route ≡ s.route) × (s'.wire ≡ s.wire)
    → AreEndsOf n names me (record { sends = set e.sends (place t c) s'; recvs = e.recvs })
send-keeps n names me e t c s s' h at same = record {
  outs = (
    length-set e.sends (place t c) s' ∙ h.outs.0,
    λ u d x is. elim (get-set e.sends (place t c) s' (place u d) x is) [
      | inl here ↦
          let was = subst (λ (k : ℕ). slice_get e.sends k ≡ Some s) (sym here.0) at in
          let r = ap (λ (y : Sending). y.route) (sym here.1) ∙ same.0 in
          let w = ap (λ (y : Sending). y.wire) (sym here.1) ∙ same.1 in
          moved names me u d s.route x.route s.wire x.wire r w (h.outs.1 u d s was)
      | inr there ↦ h.outs.1 u d x there.1
    ],
  );
  ins = h.ins;
}

-- after a pop
pub recv-keeps : (n : ℕ) (names : Names) (me : ℕ) (e : EndsShown) (f : ℕ) (c : Chan) (r r' : Receiving) → AreEndsOf n names me e
    → slice_get e.recvs (place f c) ≡ Some r → (r'.route ≡ r.route) × (r'.wire ≡ r.wire)
    → AreEndsOf n names me (record { sends = e.sends; recvs = set e.recvs (place f c) r' })
recv-keeps n names me e f c r r' h at same = record {
  outs = h.outs;
  ins = (
    length-set e.recvs (place f c) r' ∙ h.ins.0,
    λ u d x is. elim (get-set e.recvs (place f c) r' (place u d) x is) [
      | inl here ↦
          let was = subst (λ (k : ℕ). slice_get e.recvs k ≡ Some r) (sym here.0) at in
          let a = ap (λ (y : Receiving). y.route) (sym here.1) ∙ same.0 in
          let b = ap (λ (y : Receiving). y.wire) (sym here.1) ∙ same.1 in
          moved names u me d r.route x.route r.wire x.wire a b (h.ins.1 u d r was)
      | inr there ↦ h.ins.1 u d x there.1
    ],
  );
}
