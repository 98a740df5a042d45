-- After an event each block is whole again, and data on the way has a block's length.
use Rattle.coherence_frame.proofs.Coming.{long_message}
use Rattle.coherence_frame.proofs.Scheme.{HasLength, Scheme}
use Rattle.std.proofs.Common.{ℕ, ◌<◌, List, [], ◌∷◌, map, Option, sym, ap, subst, ◌∙◌, inl, inr}
use Rattle.std.proofs.lemmas.Bool.{cases_eq}
use Rattle.tw_base.specs.Lists.{Each}
use Rattle.tw_base.specs.declared.entry.After.{After}
use Rattle.tw_base.specs.declared.message.Chan.{Chan}
use Rattle.tw_base.specs.declared.message.Message.{Message}
use Rattle.teapot_meaning.specs.declared.state.Here.{Here as Place}
use Rattle.dsm_runs.specs.Events.{Handles as Handling, Stores as Storing}
use Rattle.dsm_runs.specs.Invariants.{IsOnTheWay, IsRunState}
use Rattle.dsm_runs.specs.Locals.{Local}
use Rattle.dsm_runs.specs.Setups.{Setup, block_of}
use Rattle.dsm_runs.specs.Worlds.{World}
use Rattle.block_spots.specs.Notes.{notes}
use Rattle.block_spots.specs.Views.{seen_message}
use Rattle.coherence_frame.proofs.Views.{notes_nil, notes_other, notes_same}
use Rattle.coherence_frame.specs.Parts.{seen, IsTreeOf}
use Rattle.coherence_frame.proofs.Simulating.{Answered}

module _ (scheme : Scheme) where
  -- the node that handled a message
  pub placed_handled : (s : Setup) (i stamp : ℕ) (m : Message) (l l2 : Local) (sends : List Message) (after : Option After) →
      Handling s i stamp m l l2 sends after → Answered scheme s i m l l2 sends
      → (b : ℕ) → scheme.wording.IsPlaced (l.blocks b) → scheme.wording.IsPlaced (l2.blocks b)
  placed_handled s i stamp m l l2 sends after h a b was = elim (cases_eq b m.block) [
    | inl q ↦ subst (λ k. scheme.wording.IsPlaced (l2.blocks k)) (sym q) a.turn.placed
    | inr d ↦ subst (λ (x : Place). scheme.wording.IsPlaced x) (sym (h.others b d)) was
  ]

  -- the node that stored a word
  pub placed_stored : (s : Setup) (l l2 : Local) (address value : ℕ) → Storing s l l2 address value →
      ((b : ℕ) → b < s.shape.blocks → scheme.wording.IsPlaced (l.blocks b)) → (b : ℕ) → b < s.shape.blocks →
      scheme.wording.IsPlaced (l2.blocks b)
  placed_stored s l l2 address value st was b lb = elim (cases_eq b (block_of s address)) [
    | inl q ↦ (
        let before : scheme.wording.IsPlaced (l.blocks (block_of s address)) =
        subst (λ k. scheme.wording.IsPlaced (l.blocks k)) q (was b lb) in
        subst (λ (x : Place). scheme.wording.IsPlaced x) (sym (ap (λ k. l2.blocks k) q ∙ st.block))
        (scheme.shows.placed_words (l.blocks (block_of s address)) _ before)
        )
    | inr d ↦ subst (λ (x : Place). scheme.wording.IsPlaced x) (sym (st.others b d)) (was b lb)
  ]

  long_notes : (s : Setup) (f t b : ℕ) (ms : List Message) → IsTreeOf scheme.wording s.protocol → Each (IsOnTheWay s f t) ms →
      Each (HasLength s.shape.words) (notes b (map seen_message ms))
  long_notes s f t b [] is h = rw (notes_nil b) tt
  long_notes s f t b (m ∷ ms) is h = elim (cases_eq m.block b) [
    | inl q ↦ rw (notes_same b (seen_message m) (map seen_message ms) q)
        (long_message scheme s.protocol s.shape.words m is h.0.is_message, long_notes s f t b ms is h.1)
    | inr d ↦ rw (notes_other b (seen_message m) (map seen_message ms) d) (long_notes s f t b ms is h.1)
  ]

  pub long_on_way : (s : Setup) (g : World) → IsTreeOf scheme.wording s.protocol → IsRunState s g → (f t b : ℕ) (c : Chan) →
      Each (HasLength s.shape.words) (notes b ((seen scheme.wording s g).wires f t c))
  long_on_way s g is state f t b c = long_notes s f t b (g.wires f t c) is (state.wires f t c)
