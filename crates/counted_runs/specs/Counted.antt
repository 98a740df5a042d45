-- The counts of a run: how many ops the handlers of each node made, and how many records they saved.
use Rattle.std.specs.Prelude.{◌≡◌, ℕ, List}
use Rattle.tw_base.specs.declared.entry.Entry.{Entry}
use Rattle.compiled_meaning.specs.Whole.{IsCode}
use Rattle.handler_code.specs.declared.code.Code.{Code}
use Rattle.dsm_runs.specs.Beside.{RunsBeside}
use Rattle.dsm_runs.specs.Setups.{Setup}
use Rattle.dsm_runs.specs.Worlds.{World, start}
use Rattle.node_meaning.specs.Tallies.{Counts, Tally, first_tally}

-- The code of the protocol, entered by each message that the run handles, comes to these tallies.
pub record HasCounts (s : Setup) (j : List Entry) (g : World) (counts : ℕ → Tally) : Type 0 where
  pub code : Code
  pub is_code : IsCode s.protocol code
  pub beside : RunsBeside (Counts s code) s (start s) (first_tally s) j g counts

-- A run has one tally for each node.
abbrev pub CountsAreOne : Type 0
CountsAreOne =
    (s : Setup) (j : List Entry) (g h : World) (a b : ℕ → Tally) → HasCounts s j g a → HasCounts s j h b → a ≡ b
