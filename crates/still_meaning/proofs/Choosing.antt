-- The words of the nodes' tests tell the events that are enabled.
use Rattle.std.proofs.Common.{◌≡◌, ◌∙◌, ℕ, zero, suc, ◌+◌, ◌*◌, ◌<◌, List, [], ◌∷◌, Some, length, refl, sym, arith}
use Rattle.std.specs.Prelude.{map, slice_get, slice_index}
use Rattle.dsm_runs.specs.Schedules.{enabled_events, node_events}
use Rattle.dsm_runs.specs.Tests.{is_enabled}
use Rattle.dsm_runs.specs.Worlds.{World}
use Rattle.event_masks.specs.Told.{told_events}
use Rattle.event_masks.proofs.Telling.{told_enabled}
use Rattle.node_parts.specs.Truths.{truths}
use Rattle.node_meaning.specs.Nodes.{Shown}
use Rattle.still_meaning.specs.Stills.{IsStill, StillShown}
use Rattle.still_meaning.specs.Laws.{AreTests}
use Rattle.still_meaning.proofs.Enabling.{tests_are}

some_there : {X : Type 0} (xs : List X) (i : ℕ) → i < length xs → (x : X) × (slice_get xs i ≡ Some x)
some_there [] i l = absurd (omega arith)
some_there (x ∷ xs) zero l = (x, refl)
some_there (x ∷ xs) (suc i) l = some_there xs i (omega arith)

pub tests_tell : (a : StillShown) (words : List ℕ) (g : World) → AreTests a words → IsStill a g →
    told_events words ≡ enabled_events a.setup g
tests_tell a words g w s = told_enabled a.setup g words w.count (λ i l. at i l (some_there a.nodes i (omega (arith, s.count, l))))
  where
    at : (i : ℕ) → i < a.setup.shape.nodes → (n : Shown) × (slice_get a.nodes i ≡ Some n) →
        truths (2 + 2 * a.setup.shape.nodes) (slice_index words i)
        ≡ map (is_enabled a.setup g) (node_events a.setup.shape.nodes i)
    at i l (n, there) = w.tests i n there ∙ sym (tests_are a g i n s there l (w.fronts i n there))
