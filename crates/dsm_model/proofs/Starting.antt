-- Nodes and wires at the start.
use Rattle.std.proofs.Common.{◌≡◌, ℕ, zero, suc, ◌<◌, ◌⊎◌, inl, inr, List, [], ◌∷◌, ◌++◌, length, map, Some, refl, ap, sym, ◌∙◌}
use Rattle.std.proofs.Common.{subst, arith}
use Rattle.std.specs.Prelude.{slice_get, unwrap_or, All}
use Rattle.std.specs.List.{range_with_len, slice_index_or}
use Rattle.std.proofs.lemmas.Bool.{cases_lt}
use Rattle.std.proofs.lemmas.List.{get_or_past}
use Rattle.std.proofs.lemmas.List.Elements.{All-nil, All-cons}
use Rattle.std.proofs.lemmas.List.FromFn.{get_or-map-range_with_len, length-map-range_with_len}
use Rattle.std.proofs.lemmas.Option.{unwrap_or-slice_get}
use Rattle.mini_asm.specs.Run.{IsInit}
use Rattle.teapot_meaning.specs.declared.state.Here.{Here}
use Rattle.tw_base.specs.declared.message.Chan.{Chan}
use Rattle.dsm_model.specs.declared.local.Local.{Local as Node}
use Rattle.dsm_model.specs.declared.outbox.Outbox.{Outbox}
use Rattle.dsm_runs.specs.Setups.{Setup}
use Rattle.dsm_model.specs.Queues.{Held, nothing_held}
use Rattle.dsm_model.specs.Kept.{AreSound, IsSound}
use Rattle.dsm_runs.specs.Locals.{first}
use Rattle.dsm_model.specs.Views.{AllRoom, HasRoom, local_of, locals_of, next_in, nexts_of, queue_of, wires_of}

pub init-all : (size : ℕ) (init : List (ℕ × ℕ)) → IsInit size init → All (λ p. p.0 < size) init
init-all size [] h = All-nil (λ p. p.0 < size)
init-all size (p ∷ ps) h = All-cons (λ p. p.0 < size) p ps h.0 (init-all size ps h.2)

-- a list of the values of f has them
pub listed_or : (f : ℕ → Here) (n b : ℕ) → unwrap_or (slice_get (map f (range_with_len 0 n)) b) (f b) ≡ f b
listed_or f n b = unwrap_or-slice_get (map f (range_with_len 0 n)) b (f b) ∙ elim (cases_lt b n) [
  | inl lt ↦ get_or-map-range_with_len f 0 n b b (f b) lt (omega arith)
  | inr le ↦ get_or_past (map f (range_with_len 0 n)) b (f b) (omega (arith, length-map-range_with_len f 0 n))
]

slice_get_push : {X : Type 0} (xs : List X) (y : X) (i : ℕ) →
    (slice_get (xs ++ y ∷ []) i ≡ slice_get xs i) ⊎ ((i ≡ length xs) × (slice_get (xs ++ y ∷ []) i ≡ Some y))
slice_get_push [] y zero = inr (refl, refl)
slice_get_push [] y (suc i) = inl refl
slice_get_push (x ∷ xs) y zero = inl refl
slice_get_push (x ∷ xs) y (suc i) = elim (slice_get_push xs y i) [
  | inl e ↦ inl e
  | inr p ↦ inr (ap suc p.0, p.1)
]

pub locals_push : (s : Setup) (xs : List Node) (l : Node) → ((i : ℕ) → locals_of s xs i ≡ first s i) →
    local_of s (length xs) l ≡ first s (length xs) → (i : ℕ) → locals_of s (xs ++ l ∷ []) i ≡ first s i
locals_push s xs l so_far here i = elim (slice_get_push xs l i) [
  | inl e ↦ rw e (so_far i)
  | inr p ↦ rw p.1 (rw p.0 here)
]

pub sound_push : (s : Setup) (xs : List Node) (l : Node) → AreSound s xs → IsSound s l → AreSound s (xs ++ l ∷ [])
sound_push s xs l so_far here i x at = elim (slice_get_push xs l i) [
  | inl e ↦ so_far i x (sym e ∙ at)
  | inr p ↦ let same : l ≡ x = some_node l x (sym p.1 ∙ at) in subst (λ (y : Node). IsSound s y) same here
]
  where
    some_node : (x y : Node) → Some x ≡ Some y → x ≡ y
    some_node x y h = cc

pub none_sound : (s : Setup) → AreSound s []
none_sound s = λ i l at. absurd (cc)

pub room_push : (xs : List Outbox) (r : Outbox) → AllRoom xs → HasRoom r → AllRoom (xs ++ r ∷ [])
room_push xs r so_far here f x at = elim (slice_get_push xs r f) [
  | inl e ↦ so_far f x (sym e ∙ at)
  | inr p ↦ subst HasRoom (some_one r x (sym p.1 ∙ at)) here
]
  where
    some_one : (a b : Outbox) → Some a ≡ Some b → a ≡ b
    some_one a b e = cc

pub wires_push : (xs : List Outbox) (r : Outbox) → ((f t : ℕ) (c : Chan) → wires_of xs f t c ≡ []) →
    ((t : ℕ) (c : Chan) → queue_of r t c ≡ []) → (f t : ℕ) (c : Chan) → wires_of (xs ++ r ∷ []) f t c ≡ []
wires_push xs r so_far here f t c = elim (slice_get_push xs r f) [
  | inl e ↦ rw e (so_far f t c)
  | inr p ↦ rw p.1 (here t c)
]

pub nexts_push : (xs : List Outbox) (r : Outbox) → ((f t : ℕ) (c : Chan) → nexts_of xs f t c ≡ 0) →
    ((t : ℕ) (c : Chan) → next_in r t c ≡ 0) → (f t : ℕ) (c : Chan) → nexts_of (xs ++ r ∷ []) f t c ≡ 0
nexts_push xs r so_far here f t c = elim (slice_get_push xs r f) [
  | inl e ↦ rw e (so_far f t c)
  | inr p ↦ rw p.1 (here t c)
]

pub no_outboxes : AllRoom []
no_outboxes = λ f r at. absurd (cc)

-- these hold nothing
abbrev pub AreEmpty : List Held → Type 0
AreEmpty qs = (k : ℕ) → (slice_index_or qs k nothing_held).messages ≡ []

pub none_empty : AreEmpty []
none_empty k = refl

pub push_empty : (qs : List Held) (q : Held) → AreEmpty qs → q.messages ≡ [] → AreEmpty (qs ++ q ∷ [])
push_empty [] q h e zero = e
push_empty [] q h e (suc k) = refl
push_empty (x ∷ xs) q h e zero = h zero
push_empty (x ∷ xs) q h e (suc k) = push_empty xs q (λ j. h (suc j)) e k
