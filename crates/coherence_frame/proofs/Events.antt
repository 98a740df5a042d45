-- From an event to the turn of a cache or of a home.
use Rattle.std.proofs.Common.{◌≡◌, ◌≢◌, ℕ, [], ◌∷◌, ◌++◌, refl, sym, ap, ◌∙◌}
use Rattle.std.proofs.lemmas.List.{append-nil}
use Rattle.block_spots.specs.Cases.{Message, Kept, No, Stale}
use Rattle.block_spots.specs.Notes.{note, notes, kept_notes}
use Rattle.block_spots.specs.Sketches.{Local, Wires, Handles, with_kept}
use Rattle.tw_base.specs.declared.message.Chan.{Chan}
use Rattle.coherence_frame.proofs.Views.{notes-append, kept_notes-append, kept_notes_from_other, kept_notes_same}
use Rattle.coherence_frame.proofs.Views.{kept_notes_nil, kept_notes-freed_if, sent, sent_from_other}
use Rattle.coherence_frame.proofs.Turning.{kept_if}
use Rattle.coherence_frame.proofs.Rows.{Plan}

module _ (plan : Plan) where
  module _ (n home i : ℕ) (m : Message) (l : Local) (w : Wires) (l2 : Local) (w2 : Wires)
      (a : Handles plan.table n home i m l w l2 w2) where
    -- a wire after the handling: what it had, and what was sent on it
    pub wire_after : (f t : ℕ) (c : Chan) → notes m.block (w2 f t c) ≡ notes m.block (w f t c)
        ++ sent m.block a.effect.sends f t c
    unfolding sent
    wire_after f t c = ap (notes m.block) (a.wires f t c) ∙ notes-append m.block _ _

    pub wire_from_other : (f t : ℕ) (c : Chan) → f ≢ i → notes m.block (w2 f t c) ≡ notes m.block (w f t c)
    wire_from_other f t c d =
        wire_after f t c ∙ ap (λ x. notes m.block (w f t c) ++ x)
        (sent_from_other m.block f t i c a.effect.sends (plan.sends.from_node n home i _ m a.effect a.does) d)
        ∙ append-nil _

    pub kept_from_other : (j : ℕ) → m.from ≢ j → kept_notes m.block j l2.deferred ≡ kept_notes m.block j l.deferred
    kept_from_other j d = ap (kept_notes m.block j) a.deferred ∙ kept_notes-freed_if m.block j m.block a.effect.freed _
        ∙ go a.effect.kept
      where
        go : (k : Kept) → kept_notes m.block j (with_kept k m l.deferred) ≡ kept_notes m.block j l.deferred
        go No = refl
        go Stale = kept_notes-append m.block j _ _ ∙ ap (λ x. kept_notes m.block j l.deferred ++ x)
            (kept_notes_from_other m.block j _ [] d ∙ kept_notes_nil m.block j) ∙ append-nil _

    pub kept_from_sender : (j : ℕ) → m.from ≡ j → kept_notes m.block j l2.deferred ≡ kept_notes m.block j l.deferred
        ++ kept_if a.effect.kept (note m)
    kept_from_sender j d = ap (kept_notes m.block j) a.deferred ∙ kept_notes-freed_if m.block j m.block a.effect.freed _
        ∙ go a.effect.kept
      where
        go : (k : Kept) → kept_notes m.block j (with_kept k m l.deferred) ≡ kept_notes m.block j l.deferred ++ kept_if k (note m)
        go No = sym (append-nil _)
        go Stale = kept_notes-append m.block j _ _ ∙ ap (λ x. kept_notes m.block j l.deferred ++ x)
            (kept_notes_same m.block j _ [] refl d ∙ ap (λ x. note m ∷ x) (kept_notes_nil m.block j))
