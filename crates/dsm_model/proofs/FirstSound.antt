-- The nodes at the start are sound.
use Rattle.std.proofs.Common.{◌≡◌, ℕ, ◌<◌, true, List, [], ◌∷◌, length, map, Option, Some, None, refl, ap, ◌∙◌, inl, inr, arith}
use Rattle.std.specs.List.{list_all, range_with_len}
use Rattle.std.proofs.lemmas.Bool.Decides.{Decides-ltb}
use Rattle.std.proofs.lemmas.List.FromFn.{length-map-range_with_len}
use Rattle.teapot_meaning.specs.declared.state.Here.{Here}
use Rattle.teapot_tree.specs.declared.protocol.Protocol.{Protocol}
use Rattle.teapot_tree.specs.declared.protocol.Start.{Start}
use Rattle.teapot_tree.specs.declared.protocol.State.{State}
use Rattle.teapot_tree.specs.declared.rule.Rule.TheVariants.{NotTwoStarts, Undeclared}
use Rattle.teapot_tree.specs.Rules.{IsAccepted}
use Rattle.dsm_model.specs.declared.local.Local.{Local as Node}
use Rattle.dsm_runs.specs.Setups.{IsSetup, Setup, first_here, start_state}
use Rattle.dsm_model.specs.Kept.{IsSound, is_served}
use Rattle.dsm_model.proofs.Handlings.{both}
use Rattle.dsm_model.proofs.States.{is_below-roll, position_below}

-- a protocol that is accepted has two starts, whose states are declared
pub some_state : (p : Protocol) → IsAccepted p → 0 < length p.states
some_state p a = go p.states refl p.starts refl
  where
    go : (states : List State) → p.states ≡ states → (starts : List Start) → p.starts ≡ starts → 0 < length p.states
    go (t ∷ ts) e starts h = rw e (omega arith)
    go [] e [] h = absurd (a.keeps p.line NotTwoStarts (inr (refl, rw h (omega arith))))
    go [] e (x ∷ xs) h = absurd (a.keeps x.line Undeclared (inl (rw h (inl (refl, rw e refl)))))

start_below : (s : Setup) (o : Option Start) → 0 < length s.protocol.states → start_state s o < length s.protocol.states
start_below s None h = h
start_below s (Some start) h = position_below _ s.protocol.states h

first_served : (s : Setup) (i b : ℕ) → 0 < length s.protocol.states → is_served s (first_here s i b) ≡ true
first_served s i b h =
    is_below-roll (length s.protocol.states) _
    ∙ both _ true ((Decides-ltb _ (length s.protocol.states)).1 (start_below s _ h)) refl

all_served : (s : Setup) (i : ℕ) (bs : List ℕ) → 0 < length s.protocol.states →
    list_all (is_served s) (map (first_here s i) bs) ≡ true
all_served s i [] h = refl
all_served s i (b ∷ bs) h = both (is_served s (first_here s i b)) (list_all (is_served s) (map (first_here s i) bs))
    (first_served s i b h) (all_served s i bs h)

pub first_sound : (s : Setup) (i : ℕ) (l : Node) → IsSetup s →
    l.blocks ≡ map (first_here s i) (range_with_len 0 s.shape.blocks) → l.deferred ≡ [] → l.sent ≡ 0 → IsSound s l
first_sound s i l is blocks deferred sent = record {
  count = ap (λ (hs : List Here). length hs) blocks ∙ length-map-range_with_len (first_here s i) 0 s.shape.blocks;
  served = ap (λ (hs : List Here). list_all (is_served s) hs) blocks
      ∙ all_served s i (range_with_len 0 s.shape.blocks) (some_state s.protocol is.accepted);
  deferred = rw deferred refl;
  few = rw sent (omega arith);
}
