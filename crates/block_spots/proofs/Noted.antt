-- What an event does to the notes of a block.
use Rattle.std.proofs.Common.{◌≡◌, ◌≢◌, ℕ, Bool, true, false, List, [], ◌∷◌, ◌++◌, map, arith, refl, ap, ◌∙◌}
use Rattle.std.proofs.lemmas.List.{map-append, append-nil}
use Rattle.std.proofs.lemmas.List.Elements.{filter-append}
use Rattle.std.proofs.lemmas.Bool.Decides.{nat_tests}
use Rattle.std.specs.List.{filter}
use Rattle.block_spots.specs.Cases.{Message, Kept, No, Stale}
use Rattle.block_spots.specs.Notes.{Waiting, Note, note, notes, kept_notes}
use Rattle.block_spots.specs.Sketches.{on_wire, free, with_kept, freed_if}
use Rattle.tw_base.specs.declared.message.Chan.{Chan}
use Rattle.tw_base.specs.declared.message.Chan.TheVariants.{Zero, One}

pub notes-append : (b : ℕ) (xs ys : List Message) → notes b (xs ++ ys) ≡ notes b xs ++ notes b ys
unfolding notes
notes-append b xs ys = simp (filter-append, map-append)

pub notes_nil : (b : ℕ) → notes b [] ≡ []
unfolding notes
notes_nil b = refl

pub notes_same : (b : ℕ) (m : Message) (ms : List Message) → m.block ≡ b → notes b (m ∷ ms) ≡ note m ∷ notes b ms
unfolding notes
notes_same b m ms e = grind (arith, nat_tests)

pub notes_other : (b : ℕ) (m : Message) (ms : List Message) → m.block ≢ b → notes b (m ∷ ms) ≡ notes b ms
unfolding notes
notes_other b m ms e = grind (arith, nat_tests)

-- all of block b
abbrev pub AllOf : ℕ → List Message → Type 0
AllOf b [] = Unit {0}
AllOf b (m ∷ ms) = (m.block ≡ b) × AllOf b ms

pub notes_all_other : (b c : ℕ) (p : Message → Bool) (ms : List Message) → AllOf c ms → c ≢ b → notes b (filter p ms) ≡ []
unfolding notes
notes_all_other b c p [] h d = refl
notes_all_other b c p (m ∷ ms) h d = grind (arith, nat_tests, notes_all_other b c p ms h.1 d)

pub AllOf-append : (b : ℕ) (xs ys : List Message) → AllOf b xs → AllOf b ys → AllOf b (xs ++ ys)
AllOf-append b [] ys h k = k
AllOf-append b (x ∷ xs) ys h k = (h.0, AllOf-append b xs ys h.1 k)

pub kept_notes-append : (b i : ℕ) (xs ys : List Waiting) → kept_notes b i (xs ++ ys) ≡ kept_notes b i xs ++ kept_notes b i ys
unfolding kept_notes
kept_notes-append b i xs ys = simp (filter-append, map-append)

pub kept_notes_nil : (b i : ℕ) → kept_notes b i [] ≡ []
unfolding kept_notes
kept_notes_nil b i = refl

pub kept_notes_other : (b i : ℕ) (w : Waiting) (ws : List Waiting) → w.message.block ≢ b →
    kept_notes b i (w ∷ ws) ≡ kept_notes b i ws
unfolding kept_notes
kept_notes_other b i w ws e = grind (arith, nat_tests)

pub kept_notes_from_other : (b i : ℕ) (w : Waiting) (ws : List Waiting) → w.message.from ≢ i →
    kept_notes b i (w ∷ ws) ≡ kept_notes b i ws
unfolding kept_notes
kept_notes_from_other b i w ws e = grind (arith, nat_tests)

pub kept_notes_same : (b i : ℕ) (w : Waiting) (ws : List Waiting) → w.message.block ≡ b → w.message.from ≡ i →
    kept_notes b i (w ∷ ws) ≡ note w.message ∷ kept_notes b i ws
unfolding kept_notes
kept_notes_same b i w ws d e = grind (arith, nat_tests)

pub kept_notes-free : (b i c : ℕ) (ws : List Waiting) → kept_notes b i (map (free c) ws) ≡ kept_notes b i ws
unfolding kept_notes
kept_notes-free b i c [] = refl
kept_notes-free b i c (w ∷ ws) = grind (arith, nat_tests, kept_notes-free b i c ws)

pub kept_notes-freed_if : (b i c : ℕ) (t : Bool) (ws : List Waiting) → kept_notes b i (freed_if t c ws) ≡ kept_notes b i ws
kept_notes-freed_if b i c true ws = kept_notes-free b i c ws
kept_notes-freed_if b i c false ws = refl

pub kept_notes-with_kept_other : (b i : ℕ) (k : Kept) (m : Message) (ws : List Waiting) → m.block ≢ b →
    kept_notes b i (with_kept k m ws) ≡ kept_notes b i ws
kept_notes-with_kept_other b i No m ws d = refl
kept_notes-with_kept_other b i Stale m ws d =
    kept_notes-append b i ws _ ∙ ap (λ x. kept_notes b i ws ++ x) (kept_notes_other b i _ [] d ∙ kept_notes_nil b i)
    ∙ append-nil _

-- what a list of sends puts on one wire, of block b
unfoldable pub sent : ℕ → List Message → ℕ → ℕ → Chan → List Note
sent b ms f t c = notes b (filter (on_wire f t c) ms)

abbrev pub AllFrom : ℕ → List Message → Type 0
AllFrom i [] = Unit {0}
AllFrom i (m ∷ ms) = (m.from ≡ i) × AllFrom i ms

pub AllFrom-append : (i : ℕ) (xs ys : List Message) → AllFrom i xs → AllFrom i ys → AllFrom i (xs ++ ys)
AllFrom-append i [] ys h k = k
AllFrom-append i (x ∷ xs) ys h k = (h.0, AllFrom-append i xs ys h.1 k)

pub sent_nil : (b f t : ℕ) (c : Chan) → sent b [] f t c ≡ []
unfolding sent notes
sent_nil b f t c = refl

pub sent-append : (b f t : ℕ) (c : Chan) (xs ys : List Message) → sent b (xs ++ ys) f t c ≡ sent b xs f t c ++ sent b ys f t c
unfolding sent
sent-append b f t c xs ys = simp (filter-append, notes-append)

pub sent_from_other : (b f t i : ℕ) (c : Chan) (ms : List Message) → AllFrom i ms → f ≢ i → sent b ms f t c ≡ []
unfolding sent notes
sent_from_other b f t i c [] h d = refl
sent_from_other b f t i c (m ∷ ms) h d = grind (arith, nat_tests, sent_from_other b f t i c ms h.1 d)

pub sent_one : (b f t : ℕ) (c : Chan) (x : Message) → x.block ≡ b → x.from ≡ f → x.to ≡ t → x.chan ≡ c →
    sent b (x ∷ []) f t c ≡ note x ∷ []
unfolding sent notes
sent_one b f t Zero x p q r s = grind (arith, nat_tests)
sent_one b f t One x p q r s = grind (arith, nat_tests)

pub sent_one_past : (b f t : ℕ) (c : Chan) (x : Message) → x.to ≢ t → sent b (x ∷ []) f t c ≡ []
unfolding sent notes
sent_one_past b f t c x r = grind (arith, nat_tests)

pub sent_one_chan : (b f t : ℕ) (c : Chan) (x : Message) → x.chan ≢ c → sent b (x ∷ []) f t c ≡ []
unfolding sent notes
sent_one_chan b f t Zero x r = grind (arith, nat_tests)
sent_one_chan b f t One x r = grind (arith, nat_tests)
