-- The events of a schedule are made, one after another.
use Rattle.std.proofs.Common.{◌≡◌, ◌∙◌, ℕ, ◌+◌, List, [], ◌∷◌, ◌++◌, Option, Some, None, length, length-append}
use Rattle.std.proofs.Common.{refl, ap, sym, subst, arith}
use Rattle.std.specs.Prelude.{IfNone, IfSome}
use Rattle.tw_base.specs.declared.entry.Entry.{Entry}
use Rattle.tw_base.specs.declared.entry.Event.{Event}
use Rattle.dsm_runs.specs.Begun.{HasBegun}
use Rattle.dsm_runs.specs.Schedules.{Settles, chosen, enabled_events}
use Rattle.dsm_runs.specs.Setups.{Setup}
use Rattle.dsm_runs.specs.Worlds.{World, event_of}
use Rattle.dsm_runs.proofs.Scheduling.{none_left}
use Rattle.event_masks.specs.Told.{told_events}
use Rattle.still_meaning.specs.Stills.{GoesThrough, IsAtRest, IsSpread, IsStill, AreWhole, Passes, StillShown}
use Rattle.still_meaning.proofs.Going.{begun_none, begun_through, settled}
use Rattle.still_meaning.proofs.Passing.{passes_through}
use Rattle.still_nodes.specs.Driving.{HasFollowed, HasSettled}
use Rattle.still_nodes.specs.Making.{Made, MadeAtMost, MayMake, none, one}
use Rattle.still_nodes.specs.Telling.{Tells}
use Rattle.still_nodes.proofs.Choosing.{at_rest, may_be_made}
use Rattle.still_nodes.proofs.Composed.{after_none, then_none}

-- ---- what the schedule takes next

module _ (s : StillShown) (words : List ℕ) (stride turn : ℕ) (w : AreWhole s) (tells : Tells s words) (spread : IsSpread s) where
  pub may_make_chosen : (o : Option Event) → o ≡ chosen stride turn (told_events words) → IfSome o (MayMake s)
  may_make_chosen None is = tt
  may_make_chosen (Some e) is = may_be_made s w.state words stride turn e w.still tells spread (sym is)

  pub rests_where_none : (o : Option Event) → o ≡ chosen stride turn (told_events words) → IfNone o (IsAtRest s)
  rests_where_none None is = at_rest s w.state words w.still tells spread (none_left stride turn (told_events words) (sym is))
  rests_where_none (Some e) is = tt

-- ---- the events that were made

-- as many events of the schedule were made as turns
pub record Follows (old new : StillShown) (stride turn : ℕ) : Type 0 where
  pub entries : List Entry
  pub count : length entries ≡ turn
  pub goes : GoesThrough old new entries (HasBegun old.setup stride 0)

-- this is what the schedule takes next, in every state that it may be
pub record IsNext (s : StillShown) (stride turn : ℕ) (next : Option Event) : Type 0 where
  pub takes : (h : World) → IsStill s h → next ≡ chosen stride turn (enabled_events s.setup h)

pub follows_start : (a : StillShown) (stride : ℕ) → Follows a a stride 0
follows_start a stride = record { entries = []; count = refl; goes = begun_none a stride }

pub has_followed : (a b : StillShown) (stride turn : ℕ) → Follows a b stride turn → HasFollowed a b stride
has_followed a b stride turn f = record { entries = f.entries; goes = f.goes }

pub follows_more : (a b c : StillShown) (stride turn : ℕ) (e : Event) →
    Follows a b stride turn → IsNext b stride turn (Some e) → Made b c e → Follows a c stride (turn + 1)
follows_more a b c stride turn e f next m =
    let picks : (h : World) → IsStill b h →
    chosen stride (length f.entries) (enabled_events b.setup h) ≡ Some (event_of m.entry) =
    λ h s.
    ap (λ k. chosen stride k (enabled_events b.setup h)) f.count ∙ sym (next.takes h s) ∙ ap Some (sym m.tells) in
    record {
      entries = f.entries ++ m.entry ∷ [];
      count = omega (arith, length-append f.entries (m.entry ∷ []), f.count);
      goes = begun_through a b c stride f.entries m.entry f.goes m.goes picks;
    }

pub follows_at_most : (a b c : StillShown) (stride turn : ℕ) (e : Event) →
    Follows a b stride turn → IsNext b stride turn (Some e) → MadeAtMost b c e → HasFollowed a c stride
follows_at_most a b c stride turn e f next m = elim m [
  | none x ↦ record { entries = f.entries; goes = then_none a b c f.entries (HasBegun a.setup stride 0) f.goes x }
  | one x ↦ has_followed a c stride (turn + 1) (follows_more a b c stride turn e f next x)
]

pub has_settled : (a b : StillShown) (stride turn : ℕ) →
    Follows a b stride turn → IsNext b stride turn None → HasSettled a b stride
has_settled a b stride turn f next =
    let quiet : (h : World) → IsStill b h → enabled_events b.setup h ≡ [] =
    λ h s. none_left stride turn (enabled_events b.setup h) (sym (next.takes h s)) in
    record { entries = f.entries; goes = settled a b stride f.entries f.goes quiet }

-- ---- the messages were handed over before

module _ (a b : StillShown) (stride : ℕ) (p : Passes a b) where
  pub followed_none : HasFollowed a b stride
  followed_none = record {
    entries = [];
    goes = then_none a a b [] (HasBegun a.setup stride 0) (begun_none a stride) (passes_through a b p);
  }

  pub followed_after : (c : StillShown) → HasFollowed b c stride → HasFollowed a c stride
  followed_after c h =
      let goes = subst (λ (s : Setup). GoesThrough b c h.entries (HasBegun s stride 0)) p.same_setup h.goes in
      record { entries = h.entries; goes = after_none a b c h.entries (HasBegun a.setup stride 0) (passes_through a b p) goes }

  pub settled_after : (c : StillShown) → HasSettled b c stride → HasSettled a c stride
  settled_after c h =
      let goes = subst (λ (s : Setup). GoesThrough b c h.entries (Settles s stride 0)) p.same_setup h.goes in
      record { entries = h.entries; goes = after_none a b c h.entries (Settles a.setup stride 0) (passes_through a b p) goes }
