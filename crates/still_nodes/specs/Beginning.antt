-- The nodes at the start of their programs.
use Rattle.std.specs.Prelude.{◌≡◌, ℕ, List, [], Some, None, slice_get}
use Rattle.tw_base.specs.declared.message.Chan.{Chan}
use Rattle.handler_code.specs.declared.code.Code.{Code}
use Rattle.dsm_runs.specs.Replays.{begin}
use Rattle.dsm_runs.specs.Setups.{Setup}
use Rattle.node_meaning.specs.Nodes.{Shown, front_at}
use Rattle.node_meaning.specs.Stands.{StandsFor}

-- node i at the start, with nothing kept and nothing that waits
pub record IsFirst (s : Setup) (code : Code) (i : ℕ) (n : Shown) : Type 0 where
  pub setup : n.setup ≡ s
  pub code_is : n.code ≡ code
  pub me : n.me ≡ i
  pub log : n.log ≡ []
  pub waiting : n.waiting ≡ []
  pub fronts : (f : ℕ) (c : Chan) → front_at n f c ≡ None
  pub stands : StandsFor n (begin s i)

-- the first nodes, by their numbers
abbrev pub AreFirst : Setup → Code → List Shown → Type 0
AreFirst s code ns = (i : ℕ) (n : Shown) → slice_get ns i ≡ Some n → IsFirst s code i n
