-- What a handling does to the weight of all that a block has on the way and deferred.
use Rattle.std.proofs.Common.{◌≡◌, ◌≢◌, ℕ, ◌+◌, ◌<◌, List, ◌++◌, arith, refl, sym, ap, ◌∙◌, inl, inr}
use Rattle.std.proofs.lemmas.List.{append-nil}
use Rattle.std.proofs.lemmas.Bool.{cases_eq}
use Rattle.tw_base.specs.Lists.{how_many}
use Rattle.tw_base.specs.declared.message.Chan.{Chan}
use Rattle.tw_base.specs.declared.message.Chan.TheVariants.{Zero, One}
use Rattle.block_spots.specs.Cases.{Message}
use Rattle.block_spots.specs.Notes.{Waiting, Note, note, notes, kept_notes}
use Rattle.block_spots.specs.Sketches.{Local, Wires, Handles}
use Rattle.block_spots.proofs.Sums.{sum_below_one}
use Rattle.coherence_frame.proofs.Counts.{how_many-append}
use Rattle.coherence_frame.proofs.Views.{sent}
use Rattle.coherence_frame.proofs.Sends.{AllOn, AllPast, sent_past_all, AllBelow, AllTo}
use Rattle.coherence_frame.proofs.Events.{wire_after, wire_from_other, kept_from_other, kept_from_sender}
use Rattle.coherence_frame.proofs.Turning.{kept_if}
use Rattle.coherence_frame.proofs.Loads.{sum_below_add, if_at, if_at_is, if_at_other, sum_if_at, outgoing, sum_sent, sent_home}
use Rattle.coherence_frame.proofs.Loads.{load, total, kept_weight, kept_if_weight}
use Rattle.coherence_frame.proofs.Rows.{Plan}

module _ (plan : Plan) where
  -- the home handles a message
  module _ (f : Note → ℕ) (n h : ℕ) (m : Message) (l : Local) (w : Wires) (l2 : Local) (w2 : Wires)
      (o : Handles plan.table n h h m l w l2 w2)
      (from : m.from < n) (on : AllOn One o.effect.sends) (past : AllPast h o.effect.sends)
      (below : AllBelow n o.effect.sends) where
    kept_count : (j : ℕ) → how_many f (kept_notes m.block j l2.deferred)
        ≡ how_many f (kept_notes m.block j l.deferred) + if_at m.from (kept_weight o.effect.kept (f (note m))) j
    kept_count j = elim (cases_eq m.from j) [
      | inl q ↦ omega (
        arith,
        ap (how_many f) (kept_from_sender plan n h h m l w l2 w2 o j q),
        how_many-append f (kept_notes m.block j l.deferred) (kept_if o.effect.kept (note m)),
        kept_if_weight f o.effect.kept (note m),
        if_at_is m.from (kept_weight o.effect.kept (f (note m))) j q,
      )
      | inr d ↦ omega (
        arith,
        ap (how_many f) (kept_from_other plan n h h m l w l2 w2 o j d),
        if_at_other m.from (kept_weight o.effect.kept (f (note m))) j d,
      )
    ]

    to_home : (j : ℕ) (c : Chan) → notes m.block (w2 j h c) ≡ notes m.block (w j h c)
    to_home j c = elim (cases_eq j h) [
      | inl q ↦ rw q (wire_after plan n h h m l w l2 w2 o h h c
          ∙ ap (λ z. notes m.block (w h h c) ++ z) (sent_past_all m.block h h c o.effect.sends past) ∙ append-nil _)
      | inr d ↦ wire_from_other plan n h h m l w l2 w2 o j h c d
    ]

    from_home : (j : ℕ) → how_many f (notes m.block (w2 h j One))
        ≡ how_many f (notes m.block (w h j One)) + how_many f (sent m.block o.effect.sends h j One)
    from_home j = ap (how_many f) (wire_after plan n h h m l w l2 w2 o h j One) ∙ how_many-append f _ _

    pub home_total : total f m.block h n w2 l2.deferred ≡ total f m.block h n w l.deferred + outgoing f o.effect.sends
        + kept_weight o.effect.kept (f (note m))
    home_total = omega (
      arith,
      sum_below_add n (load f m.block h w2 l2.deferred) (load f m.block h w l.deferred)
          (λ j. how_many f (sent m.block o.effect.sends h j One) + if_at m.from (kept_weight o.effect.kept (f (note m))) j)
          (λ j k. one j),
      sum_below_add n (λ j. how_many f (sent m.block o.effect.sends h j One) + if_at m.from
          (kept_weight o.effect.kept (f (note m))) j) (λ j. how_many f (sent m.block o.effect.sends h j One))
          (if_at m.from (kept_weight o.effect.kept (f (note m)))) (λ j k. refl),
      sum_if_at n m.from (kept_weight o.effect.kept (f (note m))) from,
      sum_sent f m.block h n o.effect.sends (plan.sends.of_block n h h _ m o.effect o.does)
          (plan.sends.from_node n h h _ m o.effect o.does) on below,
    )
      where
        one : (j : ℕ) → load f m.block h w2 l2.deferred j ≡ load f m.block h w l.deferred j
            + (how_many f (sent m.block o.effect.sends h j One) + if_at m.from (kept_weight o.effect.kept (f (note m))) j)
        one j = omega (arith, ap (how_many f) (to_home j Zero), ap (how_many f) (to_home j One), from_home j, kept_count j)

  -- a cache handles a message; ds are the home's deferred ones
  module _ (f : Note → ℕ) (n h i : ℕ) (ds : List Waiting) (m : Message) (l : Local) (w : Wires) (l2 : Local) (w2 : Wires)
      (o : Handles plan.table n h i m l w l2 w2)
      (li : i < n) (ih : i ≢ h) (to : AllTo h o.effect.sends) where
    pub cache_total : total f m.block h n w2 ds ≡ total f m.block h n w ds + outgoing f o.effect.sends
    cache_total = omega (
      arith,
      sum_below_one n (load f m.block h w2 ds) (load f m.block h w ds) i li same,
      at,
      sent_home f m.block i h o.effect.sends (plan.sends.of_block n h i _ m o.effect o.does)
          (plan.sends.from_node n h i _ m o.effect o.does) to,
    )
      where
        down : (j : ℕ) → how_many f (notes m.block (w2 h j One)) ≡ how_many f (notes m.block (w h j One))
        down j = ap (how_many f) (wire_from_other plan n h i m l w l2 w2 o h j One (λ q. ih (sym q)))

        same : (j : ℕ) → j < n → j ≢ i → load f m.block h w2 ds j ≡ load f m.block h w ds j
        same j k d = omega (
          arith,
          down j,
          ap (how_many f) (wire_from_other plan n h i m l w l2 w2 o j h Zero d),
          ap (how_many f) (wire_from_other plan n h i m l w l2 w2 o j h One d),
        )

        after : (c : Chan) → how_many f (notes m.block (w2 i h c))
            ≡ how_many f (notes m.block (w i h c)) + how_many f (sent m.block o.effect.sends i h c)
        after c = ap (how_many f) (wire_after plan n h i m l w l2 w2 o i h c) ∙ how_many-append f _ _

        at : load f m.block h w2 ds i ≡ load f m.block h w ds i
            + (how_many f (sent m.block o.effect.sends i h Zero) + how_many f (sent m.block o.effect.sends i h One))
        at = omega (arith, down i, after Zero, after One)
