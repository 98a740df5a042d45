-- What is read of nodes, as a state of the model has it.
use Rattle.std.specs.Prelude.{◌≡◌, ℕ, ◌<◌}
use Rattle.tw_base.specs.Shape.{Sizes}
use Rattle.tw_base.specs.declared.value.Tag.{Tag}
use Rattle.dsm_runs.specs.Setups.{Setup, size_of}
use Rattle.dsm_runs.specs.Worlds.{World}
use Rattle.journal.specs.Finals.{counted_final}
use Rattle.journal.specs.Gathered.{tag_in, word_in}
use Rattle.journal.specs.declared.finals.Final.{Final}

-- these tags, words and ends are those of the nodes in g, whose handlers made these ops and saved these records
pub record StandsAs (s : Setup) (g : World) (ops records : ℕ → ℕ) (shape : Sizes) (tag : ℕ → ℕ → Tag) (word : ℕ → ℕ → ℕ)
    (ended : ℕ → Final) : Type 0 where
  pub sizes : shape ≡ s.shape
  pub tags : (i b : ℕ) → i < s.shape.nodes → b < s.shape.blocks → tag i b ≡ tag_in g i b
  pub words : (i address : ℕ) → i < s.shape.nodes → address < size_of s → word i address ≡ word_in s g i address
  pub ends : (i : ℕ) → i < s.shape.nodes → ended i ≡ counted_final s (g.locals i) (ops i) (records i)
