-- What is proved of copies under Stache_L.
use Rattle.std.specs.Prelude.{ℕ, ◌<◌, ◌≤◌}
use Rattle.mini_asm.specs.Run.{Machine}
use Rattle.dsm_runs.specs.Setups.{IsSetup, Setup, home_of}
use Rattle.dsm_runs.specs.Worlds.{World}
use Rattle.coherence_frame.specs.Laws.{IsKept}
use Rattle.stache_l_inv.specs.Copies.{copies}
use Rattle.stache_l_inv.specs.Parts.{wording}

-- in every state of a run at most two caches hold a block read-only
abbrev pub CopiesAreFew : Type 0
CopiesAreFew =
    (s : Setup) (g : World) (m : Machine) (b : ℕ) → IsSetup s → IsKept wording s g m → b < s.shape.blocks →
    copies s.shape.nodes (home_of s b) (λ i. ((g.locals i).blocks b).tag) ≤ 2
