-- Events of a list are made, one after another.
use Rattle.std.proofs.Common.{◌≡◌, ◌∙◌, ℕ, ◌+◌, ◌<◌, ◌≤◌, List, [], ◌∷◌, ◌++◌, Some, length, get_or, take}
use Rattle.std.proofs.Common.{refl, ap, sym, subst, arith}
use Rattle.std.specs.Prelude.{Result, Ok, Err, OnErr, slice_get}
use Rattle.std.proofs.lemmas.List.{map-append, take_more}
use Rattle.std.proofs.lemmas.Option.{same_Some, slice_get-get_or, slice_get_within}
use Rattle.tw_base.specs.declared.entry.Event.{Event}
use Rattle.dsm_runs.specs.Setups.{Setup}
use Rattle.dsm_runs.specs.Worlds.{Runs, event_of}
use Rattle.still_meaning.specs.Stills.{GoesThrough, IsDisabled, Passes, StillShown}
use Rattle.still_meaning.proofs.Going.{through_more, through_none}
use Rattle.still_meaning.proofs.Passing.{passes_through}
use Rattle.still_nodes.specs.Driving.{Drives}
use Rattle.still_nodes.specs.Making.{Made, MadeAtMost, none, one}
use Rattle.still_nodes.proofs.Composed.{after_none, then_none}

pub drives_start : (a : StillShown) (events : List Event) → Drives a a events 0
drives_start a events = record { entries = []; tell = refl; goes = through_none a }

-- ---- the messages were handed over before

pub drives_none : (a b : StillShown) (events : List Event) → Passes a b → Drives a b events 0
drives_none a b events p = record { entries = []; tell = refl; goes = passes_through a b p }

pub drives_after : (a b c : StillShown) (events : List Event) (k : ℕ) → Passes a b → Drives b c events k → Drives a c events k
drives_after a b c events k p d =
    let goes = subst (λ (s : Setup). GoesThrough b c d.entries (Runs s)) p.same_setup d.goes in
    record {
      entries = d.entries;
      tell = d.tell;
      goes = after_none a b c d.entries (Runs a.setup) (passes_through a b p) goes;
    }

-- ---- one turn

-- as many events of the list were made as the number of this one
pub record IsTurn (events : List Event) (count : ℕ) (e : Event) : Type 0 where
  pub number : ℕ
  pub same : count ≡ number
  pub within : number < length events
  pub is : get_or events number e ≡ e

turn_more : (events : List Event) (k : ℕ) (e : Event) → IsTurn events k e → take (k + 1) events ≡ take k events ++ e ∷ []
turn_more events k e t =
    take_more events k e (subst (λ i. i < length events) (sym t.same) t.within)
    ∙ ap (λ (x : Event). take k events ++ x ∷ []) (ap (λ i. get_or events i e) t.same ∙ t.is)

-- the event is made
pub drives_more : (a b c : StillShown) (events : List Event) (k : ℕ) (e : Event) →
    IsTurn events k e → Drives a b events k → Made b c e → Drives a c events (k + 1)
drives_more a b c events k e t d m = record {
  entries = d.entries ++ m.entry ∷ [];
  tell =
      map-append event_of d.entries (m.entry ∷ [])
      ∙ ap (λ (es : List Event). es ++ event_of m.entry ∷ []) d.tell
      ∙ ap (λ (x : Event). take k events ++ x ∷ []) m.tells
      ∙ sym (turn_more events k e t);
  goes = through_more a b c d.entries (m.entry ∷ []) d.goes m.goes;
}

-- the event was made, or none was, before memory ran out
pub drives_at_most : (a b c : StillShown) (events : List Event) (k : ℕ) (e : Event) →
    IsTurn events k e → Drives a b events k → MadeAtMost b c e → (i : ℕ) × Drives a c events i
drives_at_most a b c events k e t d m = elim m [
  | none x ↦ (k, record { entries = d.entries; tell = d.tell; goes = then_none a b c d.entries (Runs a.setup) d.goes x })
  | one x ↦ (k + 1, drives_more a b c events k e t d x)
]

-- ---- where they stopped

-- the event is not enabled
pub stopped_at : (a : StillShown) (events : List Event) (k : ℕ) (item e : Event) →
    IsTurn events k item → IsDisabled a item → slice_get events k ≡ Some e → IsDisabled a e
stopped_at a events k item e t disabled there =
    let here : slice_get events t.number ≡ Some item = slice_get-get_or events t.number item t.within ∙ ap Some t.is in
    let same = same_Some item e (sym here ∙ ap (λ i. slice_get events i) (sym t.same) ∙ there) in
    subst (λ (x : Event). IsDisabled a x) same disabled

-- no event is left
pub none_at_end : (events : List Event) (k number : ℕ) (e : Event) →
    k ≡ number → length events ≤ number → slice_get events k ≡ Some e → ⊥
none_at_end events k number e same past there = absurd (omega (arith, slice_get_within events k e there))

-- ---- after an Err

pub on_err : {A E P : Type 0} (r : Result A E) → P → OnErr r P
on_err (Ok a) p = tt
on_err (Err e) p = p
