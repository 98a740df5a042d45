-- The words of the nodes' tests tell which events may be made, and that nothing more can happen.
use Rattle.std.proofs.Common.{◌≡◌, ◌∙◌, ℕ, zero, suc, ◌+◌, ◌*◌, ◌/◌, ◌<◌, Bool, true, false, List, [], ◌∷◌, ◌++◌, Some, length}
use Rattle.std.proofs.Common.{refl, ap, sym, subst, arith, inl, inr}
use Rattle.std.specs.Prelude.{slice_get, slice_index}
use Rattle.std.specs.List.{list_any}
use Rattle.std.proofs.lemmas.Bool.{cases_eq}
use Rattle.std.proofs.lemmas.Option.{slice_get_within}
use Rattle.tw_base.specs.declared.entry.Event.{Event}
use Rattle.tw_base.specs.declared.entry.Event.TheVariants as event
use Rattle.tw_base.specs.declared.message.Chan.{Chan}
use Rattle.tw_base.specs.declared.message.Message.{Message}
use Rattle.dsm_runs.specs.Schedules.{all_events, chosen, enabled_events, node_events}
use Rattle.dsm_runs.specs.Worlds.{IsEnabled, World}
use Rattle.dsm_runs.proofs.Scheduling.{chosen_enabled}
use Rattle.dsm_runs.proofs.Testing.{enabled_decides}
use Rattle.event_masks.specs.Told.{told, told_at, told_below, told_events}
use Rattle.event_masks.proofs.Telling.{many_events}
use Rattle.node_parts.specs.Truths.{truths}
use Rattle.node_meaning.specs.Nodes.{Shown, onto, test_of}
use Rattle.still_meaning.specs.Laws.{AreTests, KeepsFronts, node_of}
use Rattle.still_meaning.specs.Stills.{IsAtRest, IsSpread, IsStill, StillShown, unpushed}
use Rattle.still_meaning.proofs.Choosing.{tests_tell}
use Rattle.still_meaning.proofs.Enabling.{deliver_is, tests_are}
use Rattle.still_nodes.specs.Making.{IsWithin, MayMake}
use Rattle.still_nodes.proofs.Fronts.{unpushed_is}
use Rattle.still_nodes.proofs.Lists.{left_empty, right_empty}
use Rattle.still_nodes.proofs.Places.{spread_waits}
use Rattle.still_nodes.specs.Telling.{Tells}

-- ---- what is enabled

none_unpushed : (s : StillShown) (f t : ℕ) (c : Chan) → IsSpread s → unpushed (slice_get s.nodes f) f t c ≡ []
none_unpushed s f t c spread =
    unpushed_is (slice_get s.nodes f) f t c ∙ ap (λ (ms : List Message). onto f t c ms) (spread_waits s f spread)

pub keeps_fronts : (s : StillShown) (i : ℕ) (n : Shown) → IsSpread s → slice_get s.nodes i ≡ Some n → KeepsFronts s i n
keeps_fronts s i n spread there = λ f c l none.
    ap (λ (ms : List Message). ms ++ unpushed (slice_get s.nodes f) f i c) (spread.fronts f i c n there l none)
    ∙ none_unpushed s f i c spread

-- Where all is spread, words that tell of each node are the tests.
pub are_tests : (s : StillShown) (words : List ℕ) → Tells s words → IsSpread s → AreTests s words
are_tests s words tells spread = record {
  count = tells.words.0;
  tests = λ i n there. tells.tests i n there;
  fronts = λ i n there. keeps_fronts s i n spread there;
}

-- They tell the events that are enabled.
pub told_are_enabled : (s : StillShown) (words : List ℕ) (g : World) → Tells s words → IsSpread s → IsStill s g →
    told_events words ≡ enabled_events s.setup g
told_are_enabled s words g tells spread still = tests_tell s words g (are_tests s words tells spread) still

-- ---- the event that is chosen

within_of : (s : StillShown) (g : World) (e : Event) → IsEnabled s.setup g e → IsWithin s.setup.shape.nodes e
within_of s g (event.Instr i) h = h.0
within_of s g (event.Redeliver i) h = h.0
within_of s g (event.Deliver i f c) h = (h.0, h.1)

abbrev first : List Bool → Bool
first [] = false
first (b ∷ bs) = b

abbrev second : List Bool → Bool
second [] = false
second (b ∷ bs) = first bs

-- In a state that is spread an event that is enabled passes the test of its node.
pub enabled_passes : (s : StillShown) (g : World) (n : Shown) (e : Event) → IsStill s g → IsSpread s →
    slice_get s.nodes (node_of e) ≡ Some n → IsEnabled s.setup g e → test_of n e ≡ true
enabled_passes s g n (event.Instr i) still spread there h =
    sym (ap (λ bs. first bs) (tests_are s g i n still there h.0 (keeps_fronts s i n spread there)))
    ∙ (enabled_decides s.setup g (event.Instr i)).1 h
enabled_passes s g n (event.Redeliver i) still spread there h =
    sym (ap (λ bs. second bs) (tests_are s g i n still there h.0 (keeps_fronts s i n spread there)))
    ∙ (enabled_decides s.setup g (event.Redeliver i)).1 h
enabled_passes s g n (event.Deliver i f c) still spread there h =
    sym (deliver_is s g i n still there h.0 (keeps_fronts s i n spread there) f c h.1)
    ∙ (enabled_decides s.setup g (event.Deliver i f c)).1 h

-- The event that a schedule takes of those that are told may be made.
pub may_be_made : (s : StillShown) (g : World) (words : List ℕ) (stride turn : ℕ) (e : Event) → IsStill s g → Tells s words →
    IsSpread s → chosen stride turn (told_events words) ≡ Some e → MayMake s e
may_be_made s g words stride turn e still tells spread picked =
    let h : IsEnabled s.setup g e =
    chosen_enabled s.setup g stride turn (told_events words) (all_events s.setup.shape.nodes) e
    (told_are_enabled s words g tells spread still) picked in
    (within_of s g e h, λ n there. enabled_passes s g n e still spread there h)

-- ---- at rest

none_at : (n m i : ℕ) (words : List ℕ) → told_below n words m ≡ [] → i < m → told_at n i (slice_index words i) ≡ []
none_at n zero i words none l = absurd (omega arith)
none_at n (suc m) i words none l = elim (cases_eq i m) [
  | inl e ↦ ap (λ k. told_at n k (slice_index words k)) e
      ∙ right_empty (told_below n words m) (told_at n m (slice_index words m)) none
  | inr d ↦ none_at n m i words (left_empty (told_below n words m) (told_at n m (slice_index words m)) none) (omega arith)
]

many_truths : (n word : ℕ) → length (truths n word) ≡ n
unfolding truths
many_truths zero word = refl
many_truths (suc n) word = ap suc (many_truths n (word / 2))

none_true : {X : Type 0} (bs : List Bool) (xs : List X) → length bs ≡ length xs → told bs xs ≡ [] → list_any (λ b. b) bs ≡ false
none_true [] xs size none = refl
none_true (b ∷ bs) [] size none = absurd (omega arith)
none_true (true ∷ bs) (x ∷ xs) size none = absurd cc
none_true (false ∷ bs) (x ∷ xs) size none = none_true bs xs (omega arith) none

none_set : (n i word : ℕ) → told_at n i word ≡ [] → list_any (λ b. b) (truths (2 + 2 * n) word) ≡ false
unfolding told_at
none_set n i word none =
    none_true (truths (2 + 2 * n) word) (node_events n i) (many_truths (2 + 2 * n) word ∙ sym (many_events n i)) none

-- Where no event is told, nothing more can happen.
pub at_rest : (s : StillShown) (g : World) (words : List ℕ) → IsStill s g → Tells s words → IsSpread s →
    told_events words ≡ [] → IsAtRest s
at_rest s g words still tells spread none = record {
  spread = spread;
  idle = λ i n there. (
      let nodes : ℕ = s.setup.shape.nodes in
      let l : i < nodes = omega (arith, slice_get_within s.nodes i n there, still.count) in
      let below : told_below nodes words nodes ≡ [] = subst (λ k. told_below k words k ≡ []) tells.words.0 none in
      ap (λ bs. list_any (λ b. b) bs) (sym (tells.tests i n there))
      ∙ none_set nodes i (slice_index words i) (none_at nodes nodes i words below l));
}
