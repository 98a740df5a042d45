-- One more message of a list.
use Rattle.std.proofs.Common.{◌≡◌, ◌+◌, ◌<◌, ℕ, zero, suc, true, false, List, [], ◌∷◌, ◌++◌, take, length, Some, None}
use Rattle.std.proofs.Common.{slice_get, refl, ap, ◌∙◌, arith}
use Rattle.std.proofs.lemmas.List.{append-nil, map-append, take_more}
use Rattle.std.proofs.lemmas.Option.{get_or_from_slice_get, slice_get_within}
use Rattle.std.proofs.lemmas.List.Elements.{filter-append}
use Rattle.tw_base.specs.declared.message.Message.{Message}
use Rattle.block_spots.specs.Notes.{note, notes, of_block}
use Rattle.coherence_check.specs.Said.{said_to}
use Rattle.block_spots.specs.Views.{seen_message}

here : (ms : List Message) (k : ℕ) (m : Message) → slice_get ms k ≡ Some m → take (k + 1) ms ≡ take k ms ++ m ∷ []
here ms k m g = take_more ms k m (slice_get_within ms k m g) ∙ ap (λ z. take k ms ++ z ∷ []) (get_or_from_slice_get ms k m m g)

pub said_more : (b k : ℕ) (ms : List Message) (m : Message) → slice_get ms k ≡ Some m → of_block b (seen_message m) ≡ true →
    said_to b (k + 1) ms ≡ said_to b k ms ++ note (seen_message m) ∷ []
unfolding notes
said_more b k ms m g e = rw (here ms k m g) (simp (map-append, filter-append, e))

pub said_same : (b k : ℕ) (ms : List Message) (m : Message) → slice_get ms k ≡ Some m → of_block b (seen_message m) ≡ false →
    said_to b (k + 1) ms ≡ said_to b k ms
unfolding notes
said_same b k ms m g e = rw (here ms k m g) (simp (map-append, filter-append, e, append-nil))

pub said_none : (b : ℕ) → notes b [] ≡ []
unfolding notes
said_none b = refl

pub ruleset saying = (said_more, said_same)

pub some_within : (ms : List Message) (k : ℕ) → k < length ms → slice_get ms k ≡ None → ⊥
some_within [] k lt e = omega arith
some_within (x ∷ ms) zero lt e = cc
some_within (x ∷ ms) (suc k) lt e = some_within ms k (omega arith) e
