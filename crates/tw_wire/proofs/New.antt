-- The wires of all senders are new wires.
use Rattle.std.proofs.Common.{◌≡◌, ℕ, zero, suc, List, [], Some, length, map, get_or, slice_get, replicate, refl, ap, sym, ◌∙◌}
use Rattle.std.proofs.Common.{subst}
use Rattle.std.proofs.lemmas.List.{length-map, length-replicate}
use Rattle.std.proofs.lemmas.Option.{slice_get-get_or}
use Rattle.tw_wire.specs.declared.ends.Ends.{Ends}
use Rattle.tw_wire.specs.Places.{place, Names}
use Rattle.tw_wire.specs.Sides.{Sending, Receiving}
use Rattle.tw_wire.specs.Made.{AreRows}
use Rattle.tw_wire.specs.Wires.{EndsShown, AreEndsOf, AreUnused, AreNew}
use Rattle.tw_wire.specs.Lending.{shown}
use Rattle.tw_wire.proofs.Places.{map-get, get-map, all-places}

empty-at : {A : Type 0} (n t : ℕ) (x : List A) → slice_get (replicate n []) t ≡ Some x → [] ≡ x
empty-at zero t x h = absurd cc
empty-at (suc n) zero x h = cc
empty-at (suc n) (suc t) x h = empty-at n t x h

-- no sender yet
pub rows-none : (n : ℕ) (recvs : List (List Receiving)) → recvs ≡ replicate n [] → AreRows n 0 [] [] recvs
rows-none n recvs is = record {
  rows = refl;
  each = λ f row at. absurd cc;
  out_rows = refl;
  columns = ap length is ∙ length-replicate n [];
  outs = λ f out at. absurd cc;
  ins = λ t column at.
      let none : [] ≡ column = empty-at n t column (subst (λ (l : List (List Receiving)). slice_get l t ≡ Some column) is at) in (
        sym (ap length none),
        λ f c r h. let no : slice_get [] (place f c) ≡ Some r = ap
            (λ (l : List Receiving). slice_get l (place f c)) none ∙ h in absurd cc,
      );
}

pub rows-new : (n : ℕ) (names : Names) (sends : List (List Sending)) (recvs : List (List Receiving)) (ends : List Ends)
    → AreRows n n names sends recvs
    → map (λ (e : Ends). e.sends.items) ends ≡ sends → map (λ (e : Ends). e.recvs.items) ends ≡ recvs
    → AreNew n names (map shown ends)
rows-new n names sends recvs ends h s r = record {
  wires = record { rows = h.rows; each = λ k d lt. h.each k (get_or names k d) (slice_get-get_or names k d lt) };
  count = length-map ends shown ∙ sym (length-map ends (λ (e : Ends). e.sends.items)) ∙ ap length s ∙ h.out_rows;
  each = λ k e at.
      let o = map-get shown ends k e at in
      let outs = h.outs k o.0.sends.items (sym (ap (λ (l : List (List Sending)). slice_get l k) s)
      ∙ get-map (λ (x : Ends). x.sends.items) ends k o.0 o.1) in
      let ins = h.ins k o.0.recvs.items (sym (ap (λ (l : List (List Receiving)). slice_get l k) r)
      ∙ get-map (λ (x : Ends). x.recvs.items) ends k o.0 o.1) in
      subst (λ (x : EndsShown). AreEndsOf n names k x × AreUnused x) o.2 (
        record {
          outs = (outs.0, λ t c x is. let m = outs.1 t c x is in (ap (λ (y : Sending). y.route) m.1, m.0));
          ins = (ins.0, λ f c x is. let m = ins.1 f c x is in (ap (λ (y : Receiving). y.route) m.1, m.0));
        },
        record {
          outs = all-places (λ (x : Sending). x.sent ≡ []) o.0.sends.items
              (λ t c x is. ap (λ (y : Sending). y.sent) (outs.1 t c x is).1);
          ins = all-places (λ (x : Receiving). (x.taken ≡ []) × (x.looks ≡ 0)) o.0.recvs.items (λ f c x is.
              let m = (ins.1 f c x is).1 in
              (ap (λ (y : Receiving). y.taken) m, ap (λ (y : Receiving). y.looks) m));
        },
      );
}
