-- A schedule is one run, and ends where no event is enabled.
use Rattle.std.proofs.Common.{◌≡◌, ℕ, zero, suc, ◌+◌, ◌*◌, ◌%◌, ◌<◌, Bool, true, false, if◌then◌else◌, length, List, [], ◌∷◌}
use Rattle.std.proofs.Common.{◌++◌, Option, Some, None, get_or, refl, ap, sym, ◌∙◌, subst, inl, inr, arith}
use Rattle.std.specs.Prelude.{slice_get, ◌⊎◌}
use Rattle.std.specs.List.{filter}
use Rattle.std.proofs.lemmas.Bool.{cases_eq}
use Rattle.std.proofs.lemmas.Option.{slice_get-get_or}
use Rattle.tw_base.specs.declared.entry.Entry.{Entry}
use Rattle.tw_base.specs.declared.entry.Event.{Event}
use Rattle.tw_base.specs.declared.entry.Event.TheVariants as event
use Rattle.tw_base.specs.declared.message.Chan.{Chan}
use Rattle.tw_base.specs.declared.message.Chan.TheVariants.{Zero, One}
use Rattle.dsm_runs.specs.Laws.{Some_of}
use Rattle.dsm_runs.specs.Begun.{HasBegun}
use Rattle.dsm_runs.specs.Setups.{Setup}
use Rattle.dsm_runs.specs.Schedules.{Advances, Settles, all_events, chosen, deliveries, enabled_events, events_below, node_events}
use Rattle.dsm_runs.specs.Tests.{is_enabled}
use Rattle.dsm_runs.specs.Worlds.{IsEnabled, IsQuiet, Runs, Step, World, event_of}
use Rattle.dsm_runs.proofs.OneEnd.{step_world}
use Rattle.dsm_runs.proofs.OneEntry.{step_entry}
use Rattle.dsm_runs.proofs.Testing.{enabled_decides}

-- ---- each event is among all

abbrev Has : Event → List Event → Type 0
Has e es = Some_of (λ x. x ≡ e) es

has_left : (e : Event) (xs ys : List Event) → Has e xs → Has e (xs ++ ys)
has_left e [] ys h = absurd h
has_left e (x ∷ xs) ys (inl h) = inl h
has_left e (x ∷ xs) ys (inr h) = inr (has_left e xs ys h)

has_right : (e : Event) (xs ys : List Event) → Has e ys → Has e (xs ++ ys)
has_right e [] ys h = h
has_right e (x ∷ xs) ys h = inr (has_right e xs ys h)

has_delivery : (i n f : ℕ) (c : Chan) → f < n → Has (event.Deliver i f c) (deliveries i n)
has_delivery i zero f c l = absurd (omega arith)
has_delivery i (suc n) f c l = elim (cases_eq f n) [
  | inl e ↦ has_right (event.Deliver i f c) (deliveries i n) (event.Deliver i n Zero ∷ event.Deliver i n One ∷ []) (rw e (last c))
  | inr d ↦ has_left (event.Deliver i f c) (deliveries i n) (event.Deliver i n Zero ∷ event.Deliver i n One ∷ [])
      (has_delivery i n f c (omega arith))
]
  where
    last : (d : Chan) → Has (event.Deliver i n d) (event.Deliver i n Zero ∷ event.Deliver i n One ∷ [])
    last Zero = inl refl
    last One = inr (inl refl)

has_below : (n m i : ℕ) (e : Event) → i < m → Has e (node_events n i) → Has e (events_below n m)
has_below n zero i e l h = absurd (omega arith)
has_below n (suc m) i e l h = elim (cases_eq i m) [
  | inl q ↦ has_right e (events_below n m) (node_events n m) (subst (λ k. Has e (node_events n k)) q h)
  | inr d ↦ has_left e (events_below n m) (node_events n m) (has_below n m i e (omega arith) h)
]

has_enabled : (s : Setup) (g : World) (e : Event) → IsEnabled s g e → Has e (all_events s.shape.nodes)
has_enabled s g (event.Instr i) h = has_below s.shape.nodes s.shape.nodes i (event.Instr i) h.0 (inl refl)
has_enabled s g (event.Redeliver i) h = has_below s.shape.nodes s.shape.nodes i (event.Redeliver i) h.0 (inr (inl refl))
has_enabled s g (event.Deliver i f c) h = has_below s.shape.nodes s.shape.nodes i (event.Deliver i f c) h.0
    (inr (inr (has_delivery i s.shape.nodes f c h.1)))

none_passes : (p : Event → Bool) (es : List Event) (e : Event) → filter p es ≡ [] → Has e es → p e ≡ true → ⊥
none_passes p [] e none h pass = absurd h
none_passes p (x ∷ xs) e none h pass = go (p x) refl none h (λ f r. none_passes p xs e f r pass)
  where
    go : (b : Bool) → p x ≡ b → (if b then x ∷ filter p xs else filter p xs) ≡ [] → (x ≡ e) ⊎ Has e xs →
        (filter p xs ≡ [] → Has e xs → ⊥) → ⊥
    go true q f r more = cc
    go false q f (inl same) more = let bad : p x ≡ true = ap p same ∙ pass in cc
    go false q f (inr rest) more = more f rest

pub quiet_is : (s : Setup) (g : World) → enabled_events s g ≡ [] → IsQuiet s g
quiet_is s g none e h = none_passes (is_enabled s g) (all_events s.shape.nodes) e none (has_enabled s g e h)
    ((enabled_decides s g e).1 h)

-- ---- one run

pub settles_runs : (s : Setup) (stride t : ℕ) (g : World) (es : List Entry) (h : World) → Settles s stride t g es h →
    Runs s g es h
settles_runs s stride t g [] h r = r.0
settles_runs s stride t g (e ∷ es) h r = (r.1, r.2, settles_runs s stride (suc t) r.1 es h r.3)

pub settles_quiet : (s : Setup) (stride t : ℕ) (g : World) (es : List Entry) (h : World) → Settles s stride t g es h → IsQuiet s h
settles_quiet s stride t g [] h r = subst (λ (x : World). IsQuiet s x) r.0 (quiet_is s g r.1)
settles_quiet s stride t g (e ∷ es) h r = settles_quiet s stride (suc t) r.1 es h r.3

none_chosen : (stride t : ℕ) (es : List Event) (e : Event) → es ≡ [] → chosen stride t es ≡ Some e → ⊥
none_chosen stride t es e none h =
    let bad : slice_get [] ((t * stride) % length es) ≡ Some e =
    subst (λ (xs : List Event). slice_get xs ((t * stride) % length es) ≡ Some e) none h in
    cc

one_event : (o : Option Event) (d e : Event) → o ≡ Some d → o ≡ Some e → d ≡ e
one_event o d e p q = cc

pub settles_one : (s : Setup) (stride t : ℕ) (g : World) (es fs : List Entry) (h k : World) → Settles s stride t g es h →
    Settles s stride t g fs k → (es ≡ fs) × (h ≡ k)
settles_one s stride t g [] [] h k p q = (refl, sym p.0 ∙ q.0)
settles_one s stride t g [] (f ∷ fs) h k p q = absurd (none_chosen stride t (enabled_events s g) (event_of f) p.1 q.0)
settles_one s stride t g (e ∷ es) [] h k p q = absurd (none_chosen stride t (enabled_events s g) (event_of e) q.1 p.0)
settles_one s stride t g (e ∷ es) (f ∷ fs) h k p q =
    let same : e ≡ f =
    step_entry s g e f p.1 q.1 (one_event (chosen stride t (enabled_events s g)) (event_of e) (event_of f) p.0 q.0) p.2
    q.2 in
    let mid : q.1 ≡ p.1 = step_world s g e q.1 p.1 (subst (λ (x : Entry). Step s g x q.1) (sym same) q.2) p.2 in
    let rest = settles_one s stride (suc t) p.1 es fs h k p.3 (subst (λ (x : World). Settles s stride (suc t) x fs k) mid q.3) in
    (ap (λ (x : Entry). x ∷ es) same ∙ ap (λ (xs : List Entry). f ∷ xs) rest.0, rest.1)

-- ---- a schedule from its beginning

pub begun_more : (s : Setup) (stride t : ℕ) (g : World) (es : List Entry) (h : World) (e : Entry) (k : World) →
    HasBegun s stride t g es h → chosen stride (t + length es) (enabled_events s h) ≡ Some (event_of e) → Step s h e k →
    HasBegun s stride t g (es ++ e ∷ []) k
begun_more s stride t g [] h e k b c r =
    let here : t + 0 ≡ t = omega arith in (
      subst (λ j. chosen stride j (enabled_events s g) ≡ Some (event_of e)) here
          (subst (λ (x : World). chosen stride (t + 0) (enabled_events s x) ≡ Some (event_of e)) (sym b) c),
      k,
      subst (λ (x : World). Step s x e k) (sym b) r,
      refl,
    )
begun_more s stride t g (x ∷ es) h e k b c r =
    let next : t + suc (length es) ≡ suc t + length es = omega arith in (
      b.0,
      b.1,
      b.2,
      begun_more s stride (suc t) b.1 es h e k b.3
          (subst (λ j. chosen stride j (enabled_events s h) ≡ Some (event_of e)) next c) r,
    )

pub begun_settles : (s : Setup) (stride t : ℕ) (g : World) (es : List Entry) (h : World) → HasBegun s stride t g es h →
    enabled_events s h ≡ [] → Settles s stride t g es h
begun_settles s stride t g [] h b none = (b, subst (λ (x : World). enabled_events s x ≡ []) (sym b) none)
begun_settles s stride t g (e ∷ es) h b none = (b.0, b.1, b.2, begun_settles s stride (suc t) b.1 es h b.3 none)

-- ---- the event that is taken

got_passes : (p : Event → Bool) (xs : List Event) (k : ℕ) (e : Event) → slice_get (filter p xs) k ≡ Some e → p e ≡ true
got_passes p [] k e h = absurd cc
got_passes p (x ∷ xs) k e h = go (p x) refl k h (λ i. got_passes p xs i e)
  where
    go : (b : Bool) → p x ≡ b → (j : ℕ) → slice_get (if b then x ∷ filter p xs else filter p xs) j ≡ Some e →
        ((i : ℕ) → slice_get (filter p xs) i ≡ Some e → p e ≡ true) → p e ≡ true
    go true q zero f more = let same : x ≡ e = cc in sym (ap p same) ∙ q
    go true q (suc j) f more = more j f
    go false q j f more = more j f

pub chosen_enabled : (s : Setup) (g : World) (stride t : ℕ) (some events : List Event) (e : Event) →
    some ≡ filter (is_enabled s g) events → chosen stride t some ≡ Some e → IsEnabled s g e
chosen_enabled s g stride t some events e is h =
    (enabled_decides s g e).0 (got_passes (is_enabled s g) events ((t * stride) % length some) e
    (ap (λ (xs : List Event). slice_get xs ((t * stride) % length some)) (sym is) ∙ h))

pub none_left : (stride t : ℕ) (some : List Event) → chosen stride t some ≡ None → some ≡ []
none_left stride t [] h = refl
none_left stride t (x ∷ xs) h =
    let within : (t * stride) % length (x ∷ xs) < length (x ∷ xs) = omega arith in
    let there : slice_get (x ∷ xs) ((t * stride) % length (x ∷ xs))
    ≡ Some (get_or (x ∷ xs) ((t * stride) % length (x ∷ xs)) x) =
    slice_get-get_or (x ∷ xs) ((t * stride) % length (x ∷ xs)) x within in
    absurd (cc (there, h))

-- a turn of the schedule
pub settles_at : (s s2 : Setup) (stride turn : ℕ) (g g2 h : World) (es : List Entry) (o : Option Entry) → s2 ≡ s →
    length es ≡ turn → HasBegun s stride 0 g es g2 → o ≡ None → Advances s2 stride turn g2 o h → Settles s stride 0 g es h
settles_at s s2 stride turn g g2 h es o same count b none adv =
    let over : Advances s stride turn g2 None h = subst (λ (x : Option Entry). Advances s stride turn g2 x h) none
    (subst (λ (x : Setup). Advances x stride turn g2 o h) same adv) in
    begun_settles s stride 0 g es h (subst (λ (x : World). HasBegun s stride 0 g es x) over.0 b)
    (subst (λ (x : World). enabled_events s x ≡ []) over.0 over.1)

pub begun_at : (s s2 : Setup) (stride turn : ℕ) (g g2 h : World) (es : List Entry) (o : Option Entry) (e : Entry) → s2 ≡ s →
    length es ≡ turn → HasBegun s stride 0 g es g2 → o ≡ Some e → Advances s2 stride turn g2 o h →
    HasBegun s stride 0 g (es ++ e ∷ []) h
begun_at s s2 stride turn g g2 h es o e same count b some adv =
    let made : Advances s stride turn g2 (Some e) h = subst (λ (x : Option Entry). Advances s stride turn g2 x h) some
    (subst (λ (x : Setup). Advances x stride turn g2 o h) same adv) in
    let now : turn ≡ 0 + length es = omega (arith, count) in
    begun_more s stride 0 g es g2 e h b (subst (λ k. chosen stride k (enabled_events s g2) ≡ Some (event_of e)) now made.0) made.1

-- nothing was made
pub begun_still : (s : Setup) (stride : ℕ) (g g2 h : World) (es : List Entry) → h ≡ g2 → HasBegun s stride 0 g es g2 →
    HasBegun s stride 0 g es h
begun_still s stride g g2 h es same b = subst (λ (x : World). HasBegun s stride 0 g es x) (sym same) b
