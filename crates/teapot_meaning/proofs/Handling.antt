-- A state that fits has a handler for each message.
use Rattle.std.proofs.Common.{◌≡◌, ℕ, zero, suc, [], ◌∷◌, true, Option, Some, None, subst, arith}
use Rattle.std.specs.Prelude.{All, IsSome, List, is_some, slice_get}
use Rattle.tw_base.specs.declared.message.Kind.{Kind}
use Rattle.teapot_meaning.specs.Handlers.{HasDefault, default_of, handler_in, own_or}
use Rattle.teapot_tree.specs.declared.protocol.Handler.{Handler}
use Rattle.teapot_tree.specs.declared.protocol.Protocol.{Protocol}
use Rattle.teapot_tree.specs.declared.protocol.State.{State}
use Rattle.teapot_meaning.specs.declared.state.Here.{Here}
use Rattle.teapot_meaning.specs.Does.{state_of}
use Rattle.teapot_meaning.specs.Fits.{Fits, fits_below}

own_or_found : (own other : Option Handler) → is_some other ≡ true → own_or own other ≡ None → ⊥
own_or_found (Some h) other e n = cc
own_or_found None (Some h) e n = cc
own_or_found None None e n = cc

pub handler_found : (p : Protocol) (k : Kind) (s : State) → HasDefault s → handler_in p k s ≡ None → ⊥
unfolding handler_in
handler_found p k s e n = own_or_found _ (default_of s) e n

pub state_found : (p : Protocol) (here : Here) → Fits p here → (s : State) × (state_of p here ≡ Some s)
unfolding fits_below
state_found p here h = (h.state.state, h.state.is_state)

pub all_at : {X : Type 0} (P : X → Type 0) (xs : List X) (i : ℕ) (x : X) → All P xs → slice_get xs i ≡ Some x → P x
all_at P [] i x a h = cc
all_at P (y ∷ ys) zero x a h = let e : y ≡ x = cc in subst P e (a 0 y (omega arith))
all_at P (y ∷ ys) (suc i) x a h = all_at P ys i x (λ k d lt. a (suc k) d (omega arith)) h

pub not_both : {X : Type 0} (o : Option X) → IsSome o → o ≡ None → ⊥
not_both (Some x) some none = cc
not_both None some none = cc
