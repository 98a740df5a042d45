-- The flat machine starts with the words that each node's copy starts with.
use Rattle.std.proofs.Common.{◌≡◌, ℕ, ◌+◌, ◌*◌, ◌/◌, ◌%◌, ◌<◌, cond, nat_eq, List, [], ◌∷◌, length, get_or, drop, take, map}
use Rattle.std.proofs.Common.{set, replicate, refl, sym, ap, ◌∙◌, inl, inr, arith, add_comm}
use Rattle.std.specs.List.{range_with_len}
use Rattle.std.proofs.lemmas.Bool.{cases_eq}
use Rattle.std.proofs.Math.Nat.{mod-add-div'}
use Rattle.std.proofs.lemmas.List.{get_or-take, get_or-drop, get_or-set_same, get_or-set_other, get_or-replicate}
use Rattle.std.proofs.lemmas.List.{length-replicate, length-set}
use Rattle.std.proofs.lemmas.List.FromFn.{get_or-map-range_with_len}
use Rattle.block_tags.specs.Copies.{init_value}
use Rattle.mini_asm.specs.Run.{IsInit, IsApart, with_given, first_words}
use Rattle.dsm_runs.specs.Events.{word_here}
use Rattle.dsm_runs.specs.Locals.{first}
use Rattle.dsm_runs.specs.Setups.{IsSetup, Setup, size_of}
use Rattle.dsm_runs.proofs.Lists.{nat_eq_refl}
use Rattle.dsm_runs.proofs.Turns.{nat_eq_other}

-- the value that is given for an address, else this one
given_or : List (ℕ × ℕ) → ℕ → ℕ → ℕ
given_or [] a d = d
given_or (p ∷ ps) a d = cond (nat_eq p.0 a) p.1 (given_or ps a d)

given_or-init : (init : List (ℕ × ℕ)) (a : ℕ) → given_or init a 0 ≡ init_value init a
unfolding given_or
given_or-init [] a = refl
given_or-init (p ∷ ps) a = ap (cond (nat_eq p.0 a) p.1) (given_or-init ps a)

given_or-apart : (init : List (ℕ × ℕ)) (a d : ℕ) → IsApart a init → given_or init a d ≡ d
unfolding given_or
given_or-apart [] a d apart = refl
given_or-apart (p ∷ ps) a d apart = rw (nat_eq_other p.0 a apart.0) (given_or-apart ps a d apart.1)

with_given-get : (size : ℕ) (init : List (ℕ × ℕ)) (words : List ℕ) (a : ℕ) → IsInit size init → length words ≡ size →
    get_or (with_given init words) a 0 ≡ given_or init a (get_or words a 0)
unfolding given_or
with_given-get size [] words a h len = refl
with_given-get size (p ∷ ps) words a h len =
    with_given-get size ps (set words p.0 p.1) a h.2 (length-set words p.0 p.1 ∙ len) ∙ elim (cases_eq p.0 a) [
      | inl e ↦ rw (sym e) (rw (nat_eq_refl p.0) (given_or-apart ps p.0 (get_or (set words p.0 p.1) p.0 0) h.1
          ∙ get_or-set_same words p.0 p.1 0 (omega (arith, h.0, len))))
      | inr d ↦ rw (nat_eq_other p.0 a d) (ap (given_or ps a) (get_or-set_other words p.0 a p.1 0 (λ q. d (sym q))))
    ]

pub first_words-init : (size : ℕ) (init : List (ℕ × ℕ)) (a : ℕ) → IsInit size init → a < size →
    get_or (first_words size init) a 0 ≡ init_value init a
first_words-init size init a h lt =
    with_given-get size init (replicate size 0) a h (length-replicate size 0)
    ∙ ap (given_or init a) (get_or-replicate size a 0 0 lt) ∙ given_or-init init a

-- a word of a block, as a word of the memory
word_at_place : (f : ℕ → ℕ) (size w block offset : ℕ) → offset < w → block * w + offset < size →
    get_or (take w (drop (block * w) (map f (range_with_len 0 size)))) offset 0 ≡ f (block * w + offset)
word_at_place f size w block offset within inside =
    get_or-take w (drop (block * w) (map f (range_with_len 0 size))) offset 0 within
    ∙ get_or-drop (block * w) (map f (range_with_len 0 size)) offset 0
    ∙ get_or-map-range_with_len f 0 size (block * w + offset) (block * w + offset) 0 inside (omega arith)

pub first_word : (s : Setup) (i address : ℕ) → IsSetup s → address < size_of s →
    word_here s (first s i).blocks address ≡ get_or (first_words (size_of s) s.init) address 0
first_word s i address h lt =
    let w : ℕ = s.shape.words in
    let some : 0 < w = h.limits.some_word in
    let parts : address / w * w + address % w ≡ address = add_comm (address / w * w) (address % w) ∙ mod-add-div' address w in
    let within : address % w < w = omega (arith, some) in
    let inside : address / w * w + address % w < size_of s = omega (arith, parts, lt) in
    word_at_place (init_value s.init) (size_of s) w (address / w) (address % w) within inside ∙ ap (init_value s.init) parts
    ∙ sym (first_words-init (size_of s) s.init address h.init lt)
