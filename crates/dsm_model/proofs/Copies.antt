-- A node's copy of a block.
use Rattle.std.proofs.Common.{◌≡◌, ℕ, ◌<◌, List, length, Option, Some, unwrap_or, sym, ap, ◌∙◌, arith}
use Rattle.std.specs.Prelude.{slice_get}
use Rattle.teapot_meaning.specs.declared.state.Here.{Here}
use Rattle.dsm_runs.specs.Setups.{Setup, first_here}
use Rattle.dsm_model.specs.declared.local.Local.{Local as Node}
use Rattle.dsm_model.specs.Kept.{AreSound}
use Rattle.dsm_model.specs.Views.{local_at, locals_of}

pub block_within : (s : Setup) (nodes : List Node) (i b : ℕ) (l : Node) → AreSound s nodes → slice_get nodes i ≡ Some l →
    b < s.shape.blocks → b < length l.blocks
block_within s nodes i b l sound at lt = omega (arith, (sound i l at).count)

pub block_of_node : (s : Setup) (nodes : List Node) (i b : ℕ) (l : Node) (here : Here) → slice_get nodes i ≡ Some l →
    slice_get l.blocks b ≡ Some here → here ≡ (locals_of s nodes i).blocks b
block_of_node s nodes i b l here at is =
    sym (ap (λ (node : Option Node). (local_at s i node).blocks b) at
    ∙ ap (λ (copy : Option Here). unwrap_or copy (first_here s i b)) is)
