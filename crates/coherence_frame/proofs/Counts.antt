-- Counts and facts over lists of notes.
use Rattle.std.proofs.Common.{◌≡◌, ℕ, ◌+◌, ◌<◌, List, [], ◌∷◌, ◌++◌, arith, refl}
use Rattle.block_spots.specs.Notes.{Note, NRdFault, NWrFault, is_rd_fault, is_wr_fault}
use Rattle.tw_base.specs.Lists.{how_many, Each}
use Rattle.coherence_frame.specs.Words.{IsGet, IsFault}

pub how_many-append : (f : Note → ℕ) (xs ys : List Note) → how_many f (xs ++ ys) ≡ how_many f xs + how_many f ys
how_many-append f [] ys = omega arith
how_many-append f (x ∷ xs) ys = omega (arith, how_many-append f xs ys)

pub Each-push : (P : Note → Type 0) (xs : List Note) (x : Note) → Each P xs → P x → Each P (xs ++ x ∷ [])
Each-push P [] x h k = (k, tt)
Each-push P (y ∷ xs) x h k = (h.0, Each-push P xs x h.1 k)

pub gets_push : (xs : List Note) (x : Note) → Each IsGet xs → IsGet x → Each IsGet (xs ++ x ∷ [])
gets_push xs x h k = Each-push IsGet xs x h k

pub no_faults : (xs : List Note) → Each IsFault xs → how_many is_rd_fault xs + how_many is_wr_fault xs < 1 → xs ≡ []
no_faults [] h e = refl
no_faults (NRdFault ∷ xs) h e = absurd (omega arith)
no_faults (NWrFault ∷ xs) h e = absurd (omega arith)
no_faults (_ ∷ xs) h e = absurd h.0
