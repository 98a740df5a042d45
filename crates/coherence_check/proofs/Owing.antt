-- One more message that may be owed.
use Rattle.std.proofs.Common.{◌≡◌, ◌+◌, ℕ, List, [], ◌∷◌, ◌++◌, true, false, Some, slice_get, ap, ◌∙◌, take, arith}
use Rattle.std.proofs.lemmas.List.{map-append, take_more}
use Rattle.std.proofs.lemmas.Option.{get_or_from_slice_get, slice_get_within}
use Rattle.std.proofs.lemmas.List.Elements.{filter-append}
use Rattle.tw_base.specs.Lists.{how_many}
use Rattle.tw_base.specs.declared.message.Message.{Message}
use Rattle.block_spots.specs.Cases.{Message as Seen}
use Rattle.block_spots.specs.Notes.{Note, note, notes, of_block}
use Rattle.block_spots.specs.Views.{seen_message}
use Rattle.coherence_check.specs.Said.{said_to}

joined : (f : Note → ℕ) (xs ys : List Note) → how_many f (xs ++ ys) ≡ how_many f xs + how_many f ys
joined f [] ys = omega arith
joined f (x ∷ xs) ys = omega (arith, joined f xs ys)

here : (ms : List Message) (k : ℕ) (m : Message) → slice_get ms k ≡ Some m → take (k + 1) ms ≡ take k ms ++ m ∷ []
here ms k m g = take_more ms k m (slice_get_within ms k m g) ∙ ap (λ z. take k ms ++ z ∷ []) (get_or_from_slice_get ms k m m g)

apart : (b k : ℕ) (ms : List Message) (m : Message) → slice_get ms k ≡ Some m →
    said_to b (k + 1) ms ≡ said_to b k ms ++ notes b (seen_message m ∷ [])
unfolding notes
apart b k ms m g = rw (here ms k m g) (simp (map-append, filter-append))

pub owed_more : (f : Note → ℕ) (b k : ℕ) (ms : List Message) (m : Message) → slice_get ms k ≡ Some m →
    how_many f (said_to b (k + 1) ms) ≡ how_many f (said_to b k ms) + how_many f (notes b (seen_message m ∷ []))
owed_more f b k ms m g = ap (how_many f) (apart b k ms m g) ∙ joined f (said_to b k ms) (notes b (seen_message m ∷ []))

pub owed_none : (f : Note → ℕ) (b : ℕ) (m : Seen) → of_block b m ≡ false → how_many f (notes b (m ∷ [])) ≡ 0
unfolding notes
owed_none f b m e = simp e

one_alone : (f : Note → ℕ) (x : Note) → how_many f (x ∷ []) ≡ f x
one_alone f x = omega arith

pub owed_one : (f : Note → ℕ) (b : ℕ) (m : Seen) → of_block b m ≡ true → how_many f (notes b (m ∷ [])) ≡ f (note m)
unfolding notes
owed_one f b m e = simp e (one_alone f (note m))
