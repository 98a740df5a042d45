-- Where no test of a node is true, no event is enabled.
use Rattle.std.proofs.Common.{◌≡◌, ◌∙◌, ℕ, zero, suc, ◌<◌, Bool, true, false, ◌||◌, cond, List, [], ◌∷◌, ◌++◌, refl, ap, arith}
use Rattle.std.specs.Prelude.{map}
use Rattle.std.specs.List.{filter, list_any}
use Rattle.std.proofs.lemmas.List.Elements.{filter-append}
use Rattle.tw_base.specs.declared.entry.Event.{Event}
use Rattle.dsm_runs.specs.Schedules.{enabled_events, events_below, node_events}
use Rattle.dsm_runs.specs.Tests.{is_enabled}
use Rattle.dsm_runs.specs.Worlds.{IsQuiet, World}
use Rattle.dsm_runs.proofs.Scheduling.{quiet_is}
use Rattle.still_meaning.specs.Stills.{IsAtRest, IsStill, StillShown}
use Rattle.still_meaning.proofs.Enabling.{tests_are}
use Rattle.still_nodes.proofs.Choosing.{keeps_fronts}
use Rattle.still_nodes.proofs.Places.{node_there}

none_pass : {X : Type 0} (p : X → Bool) (xs : List X) → list_any (λ b. b) (map p xs) ≡ false → filter p xs ≡ []
none_pass p [] h = refl
none_pass {X} p (x ∷ xs) h = go (p x) h (none_pass p xs)
  where
    go : (b : Bool) → (b || list_any (λ t. t) (map p xs)) ≡ false → (list_any (λ t. t) (map p xs) ≡ false → filter p xs ≡ []) →
        cond b (x ∷ filter p xs) (filter p xs) ≡ []
    go true q more = absurd cc
    go false q more = more q

none_below : (p : Event → Bool) (n m : ℕ) → ((i : ℕ) → i < m → filter p (node_events n i) ≡ []) → filter p (events_below n m) ≡ []
none_below p n zero h = refl
none_below p n (suc m) h =
    filter-append p (events_below n m) (node_events n m)
    ∙ ap (λ (es : List Event). es ++ filter p (node_events n m)) (none_below p n m (λ i l. h i (omega (arith, l))))
    ∙ h m (omega arith)

none_enabled : (a : StillShown) (g : World) → IsStill a g → IsAtRest a → enabled_events a.setup g ≡ []
none_enabled a g s rest = none_below (is_enabled a.setup g) a.setup.shape.nodes a.setup.shape.nodes at
  where
    at : (i : ℕ) → i < a.setup.shape.nodes → filter (is_enabled a.setup g) (node_events a.setup.shape.nodes i) ≡ []
    at i l =
        let n = node_there a g s i l in
        let tests = tests_are a g i n.0 s n.1 l (keeps_fronts a i n.0 rest.spread n.1) in
        none_pass (is_enabled a.setup g) (node_events a.setup.shape.nodes i) (ap (list_any (λ b. b)) tests ∙ rest.idle i n.0 n.1)

pub rest_is_quiet : (a : StillShown) (g : World) → IsStill a g → IsAtRest a → IsQuiet a.setup g
rest_is_quiet a g s rest = quiet_is a.setup g (none_enabled a g s rest)
