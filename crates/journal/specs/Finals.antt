-- How the nodes stand at the end of a run.
use Rattle.std.specs.Prelude.{ℕ, List, map}
use Rattle.std.specs.List.{range_with_len}
use Rattle.dsm_runs.specs.Locals.{Local}
use Rattle.dsm_runs.specs.Outcomes.{outcome_of}
use Rattle.dsm_runs.specs.Setups.{Setup}
use Rattle.dsm_runs.specs.Worlds.{World}
use Rattle.journal.specs.declared.finals.Final.{Final}

-- of n nodes, by node
abbrev pub told_finals : ℕ → (ℕ → Final) → List Final
told_finals n ended = map ended (range_with_len 0 n)

-- a node whose handlers made these ops and saved these records
abbrev pub counted_final : Setup → Local → ℕ → ℕ → Final
counted_final s l ops records =
    record {
      outcome = outcome_of s l;
      cpu = l.cpu;
      instructions = l.instructions;
      handled = l.handled;
      ops = ops;
      records =
          records;
    }

-- a node whose handlers' work was not counted
abbrev pub final_of : Setup → Local → Final
final_of s l = counted_final s l 0 0

-- the ops and the records are by node
abbrev pub counted_finals : Setup → World → (ℕ → ℕ) → (ℕ → ℕ) → List Final
counted_finals s g ops records = told_finals s.shape.nodes (λ i. counted_final s (g.locals i) (ops i) (records i))

abbrev pub finals_of : Setup → World → List Final
finals_of s g = told_finals s.shape.nodes (λ i. final_of s (g.locals i))
