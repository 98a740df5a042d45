-- The ends of a node's wires, of which one changes.
use Rattle.std.proofs.Common.{◌≡◌, ◌≢◌, ◌<◌, ℕ, zero, suc, ◌*◌, List, [], ◌∷◌, Some, length, set, refl, ap, arith}
use Rattle.std.specs.Prelude.{slice_get}
use Rattle.std.proofs.lemmas.Option.{slice_get_within}
use Rattle.tw_base.specs.declared.message.Chan.{Chan}
use Rattle.tw_base.specs.declared.message.Chan.TheVariants.{Zero, One}
use Rattle.dsm_runs.specs.Messages.{place as model_place}
use Rattle.tw_wire.specs.Places.{place}
use Rattle.tw_wire.specs.Sides.{Receiving, Sending}
use Rattle.tw_wire.specs.Wires.{EndsShown, sent_of, taken_of}
use Rattle.seat_meaning.specs.Seats.{came_at, pushed_at}

-- ---- places

pub same_place : (t : ℕ) (c : Chan) → place t c ≡ model_place t c
same_place t c = refl

pub place_below : (n t : ℕ) (c : Chan) → t < n → place t c < 2 * n
place_below n t Zero l = omega arith
place_below n t One l = omega arith

-- ---- lists

pub set_here : {A : Type 0} (xs : List A) (k : ℕ) (x : A) → k < length xs → slice_get (set xs k x) k ≡ Some x
set_here [] k x l = absurd (omega arith)
set_here (y ∷ xs) zero x l = refl
set_here (y ∷ xs) (suc k) x l = set_here xs k x (omega arith)

pub set_other : {A : Type 0} (xs : List A) (k j : ℕ) (x : A) → j ≢ k → slice_get (set xs k x) j ≡ slice_get xs j
set_other [] k j x d = refl
set_other (y ∷ xs) zero zero x d = absurd (d refl)
set_other (y ∷ xs) zero (suc j) x d = refl
set_other (y ∷ xs) (suc k) zero x d = refl
set_other (y ∷ xs) (suc k) (suc j) x d = set_other xs k j x (λ q. d (ap suc q))

pub set_same : {A : Type 0} (xs : List A) (k : ℕ) (x : A) → slice_get xs k ≡ Some x → set xs k x ≡ xs
set_same [] k x h = refl
set_same (y ∷ xs) zero x h = let same : x ≡ y = cc in ap (λ z. z ∷ xs) same
set_same (y ∷ xs) (suc k) x h = ap (λ zs. y ∷ zs) (set_same xs k x h)

-- ---- what was pushed and taken

abbrev pub with_sends : EndsShown → ℕ → Sending → EndsShown
with_sends e k s = record { sends = set e.sends k s; recvs = e.recvs }

abbrev pub with_recvs : EndsShown → ℕ → Receiving → EndsShown
with_recvs e k r = record { sends = e.sends; recvs = set e.recvs k r }

pub pushed_here : (e : EndsShown) (t : ℕ) (c : Chan) (s s' : Sending) → slice_get e.sends (place t c) ≡ Some s
    → pushed_at (with_sends e (place t c) s') t c ≡ s'.sent
pushed_here e t c s s' at = ap sent_of (set_here e.sends (place t c) s' (slice_get_within e.sends (place t c) s at))

pub pushed_there : (e : EndsShown) (t u : ℕ) (c d : Chan) (s' : Sending) → place u d ≢ place t c
    → pushed_at (with_sends e (place t c) s') u d ≡ pushed_at e u d
pushed_there e t u c d s' apart = ap sent_of (set_other e.sends (place t c) (place u d) s' apart)

pub came_here : (e : EndsShown) (f : ℕ) (c : Chan) (r r' : Receiving) → slice_get e.recvs (place f c) ≡ Some r
    → came_at (with_recvs e (place f c) r') f c ≡ r'.taken
came_here e f c r r' at = ap taken_of (set_here e.recvs (place f c) r' (slice_get_within e.recvs (place f c) r at))

pub came_there : (e : EndsShown) (f g : ℕ) (c d : Chan) (r' : Receiving) → place g d ≢ place f c
    → came_at (with_recvs e (place f c) r') g d ≡ came_at e g d
came_there e f g c d r' apart = ap taken_of (set_other e.recvs (place f c) (place g d) r' apart)
