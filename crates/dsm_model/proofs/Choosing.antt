-- The events of a node that are enabled, asked of the node once.
use Rattle.std.proofs.Common.{◌≡◌, ℕ, zero, suc, ◌+◌, ◌<◌, Bool, true, false, ◌&&◌, nat_lt, not, if◌then◌else◌, List, [], ◌∷◌}
use Rattle.std.proofs.Common.{◌++◌, append_assoc, append-nil, refl, ap, sym, ◌∙◌, subst, arith}
use Rattle.std.specs.Prelude.{slice_get}
use Rattle.std.specs.List.{filter}
use Rattle.std.proofs.lemmas.Bool.Decides.{Decides-ltb}
use Rattle.std.proofs.lemmas.List.Elements.{filter-append}
use Rattle.tw_base.specs.declared.entry.Event.{Event}
use Rattle.tw_base.specs.declared.entry.Event.TheVariants as event
use Rattle.tw_base.specs.declared.message.Chan.{Chan}
use Rattle.tw_base.specs.declared.message.Chan.TheVariants.{Zero, One}
use Rattle.dsm_runs.specs.Schedules.{deliveries, events_below, node_events}
use Rattle.dsm_runs.specs.Setups.{Setup}
use Rattle.dsm_runs.specs.Tests.{has_eligible, is_early, is_enabled, may_handle}
use Rattle.dsm_runs.specs.Worlds.{World}
use Rattle.dsm_runs.proofs.Facts.{false_right}

and_true : (a b : Bool) → a ≡ true → (a && b) ≡ b
and_true true b h = refl
and_true false b h = absurd cc

left_false : (a b : Bool) → a ≡ false → (a && b) ≡ false
left_false true b h = absurd cc
left_false false b h = refl

not_true : (b : Bool) → b ≡ true → not b ≡ false
not_true true h = refl
not_true false h = absurd cc

-- ---- events behind others

behind : (p : Event → Bool) (old some more : List Event) (xs ys : List Event) → some ≡ old ++ filter p xs →
    more ≡ some ++ filter p ys → more ≡ old ++ filter p (xs ++ ys)
behind p old some more xs ys e f =
    f ∙ ap (λ (zs : List Event). zs ++ filter p ys) e ∙ append_assoc old (filter p xs) (filter p ys)
    ∙ ap (λ (zs : List Event). old ++ zs) (sym (filter-append p xs ys))

-- the deliveries of one node more, by its two channels
pub two_more : (p : Event → Bool) (old some more most : List Event) (i f from : ℕ) → from ≡ f →
    some ≡ old ++ filter p (deliveries i f)
    → more ≡ some ++ filter p (event.Deliver i from Zero ∷ []) → most ≡ more ++ filter p (event.Deliver i from One ∷ []) →
    most ≡ old ++ filter p (deliveries i (f + 1))
two_more p old some more most i f from is so_far by_zero by_one =
    let first : more ≡ some ++ filter p (event.Deliver i f Zero ∷ []) =
    subst (λ k. more ≡ some ++ filter p (event.Deliver i k Zero ∷ [])) is by_zero in
    let second : most ≡ more ++ filter p (event.Deliver i f One ∷ []) =
    subst (λ k. most ≡ more ++ filter p (event.Deliver i k One ∷ [])) is by_one in
    let next : suc f ≡ f + 1 = omega arith in
    let both : most ≡ some ++ filter p (event.Deliver i f Zero ∷ event.Deliver i f One ∷ []) =
    behind p some more most (event.Deliver i f Zero ∷ []) (event.Deliver i f One ∷ []) first second in
    subst (λ n. most ≡ old ++ filter p (deliveries i n)) next
    (behind p old some most (deliveries i f) (event.Deliver i f Zero ∷ event.Deliver i f One ∷ []) so_far both)

-- the events of one node more
pub node_more : (p : Event → Bool) (some more : List Event) (n i node : ℕ) → node ≡ i → some ≡ filter p (events_below n i) →
    more ≡ some ++ filter p (node_events n node) → more ≡ filter p (events_below n (i + 1))
node_more p some more n i node is so_far by_node =
    let here : more ≡ some ++ filter p (node_events n i) = subst (λ k. more ≡ some ++ filter p (node_events n k)) is by_node in
    let next : suc i ≡ i + 1 = omega arith in
    subst (λ k. more ≡ filter p (events_below n k)) next (behind p [] some more (events_below n i) (node_events n i) so_far here)

-- ---- deliveries

none_pass : (p : Event → Bool) (i n : ℕ) → ((f : ℕ) (c : Chan) → p (event.Deliver i f c) ≡ false) → filter p (deliveries i n) ≡ []
none_pass p i zero h = refl
none_pass p i (suc n) h =
    filter-append p (deliveries i n) (event.Deliver i n Zero ∷ event.Deliver i n One ∷ [])
    ∙ ap (λ (es : List Event). es ++ filter p (event.Deliver i n Zero ∷ event.Deliver i n One ∷ [])) (none_pass p i n h)
    ∙ rw (h n Zero, h n One) refl

-- a node that handles a deferred message again takes none
refused : (s : Setup) (g : World) (i f : ℕ) (c : Chan) → has_eligible (g.locals i).deferred ≡ true →
    is_enabled s g (event.Deliver i f c) ≡ false
refused s g i f c some =
    let early = is_early (slice_get (g.wires f i c) 0) in
    let takes = not (has_eligible (g.locals i).deferred) && early in
    let handles = may_handle s (g.locals i) && takes in
    false_right (nat_lt i s.shape.nodes) (nat_lt f s.shape.nodes && handles)
    (false_right (nat_lt f s.shape.nodes) handles (false_right (may_handle s (g.locals i)) takes
    (left_false (not (has_eligible (g.locals i).deferred)) early (not_true (has_eligible (g.locals i).deferred) some))))

-- ---- redelivery and deliveries

-- of a node that may handle nothing
pub none_handled : (s : Setup) (g : World) (i n : ℕ) (old : List Event) → may_handle s (g.locals i) ≡ false →
    old ≡ old ++ filter (is_enabled s g) (event.Redeliver i ∷ deliveries i n)
none_handled s g i n old may =
    let first : is_enabled s g (event.Redeliver i) ≡ false = false_right _ _ (left_false _ _ may) in
    let rest : filter (is_enabled s g) (deliveries i n) ≡ [] =
    none_pass (is_enabled s g) i n (λ f c. false_right _ _ (false_right _ _ (left_false _ _ may))) in
    sym (append-nil old) ∙ ap (λ (es : List Event). old ++ es)
    (sym (ap (λ b. if b then event.Redeliver i ∷ filter (is_enabled s g) (deliveries i n)
    else filter (is_enabled s g) (deliveries i n)) first ∙ rest))

-- of a node that handles a deferred message again
pub one_redelivered : (s : Setup) (g : World) (i n : ℕ) (old : List Event) → i < s.shape.nodes →
    may_handle s (g.locals i) ≡ true → has_eligible (g.locals i).deferred ≡ true
    → old ++ event.Redeliver i ∷ [] ≡ old ++ filter (is_enabled s g) (event.Redeliver i ∷ deliveries i n)
one_redelivered s g i n old at may some =
    let first : is_enabled s g (event.Redeliver i) ≡ true = and_true _ _ ((Decides-ltb i s.shape.nodes).1 at)
    ∙ and_true _ _ may ∙ some in
    let rest : filter (is_enabled s g) (deliveries i n) ≡ [] = none_pass (is_enabled s g) i n (λ f c. refused s g i f c some) in
    ap (λ (es : List Event). old ++ es)
    (sym (ap (λ b. if b then event.Redeliver i ∷ filter (is_enabled s g) (deliveries i n)
    else filter (is_enabled s g) (deliveries i n)) first ∙ ap (λ (es : List Event). event.Redeliver i ∷ es) rest))
