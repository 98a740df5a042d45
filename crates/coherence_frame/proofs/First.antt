-- A block at the start of a run, as every protocol's tree gives it: the home has it, a cache does not.
use Rattle.std.proofs.Common.{ℕ, Bool, true, false, List, [], ◌∷◌, Option, Some, None}
use Rattle.std.specs.Prelude.{find, position, unwrap_or}
use Rattle.std.specs.Str.{bytes_eq}
use Rattle.tw_base.specs.NodeSets.{empty}
use Rattle.tw_base.specs.declared.value.Tag.{Tag}
use Rattle.tw_base.specs.declared.value.Tag.TheVariants.{Invalid, ReadWrite}
use Rattle.tw_base.specs.declared.value.Value.{Value}
use Rattle.tw_base.specs.declared.value.Value.TheVariants as v
use Rattle.teapot_tree.specs.declared.protocol.Protocol.{Protocol}
use Rattle.teapot_tree.specs.declared.protocol.Start.{Start}
use Rattle.teapot_tree.specs.declared.protocol.State.{State}
use Rattle.teapot_meaning.specs.declared.state.Here.{Here as Place}
use Rattle.teapot_meaning.specs.declared.state.StateVal.{roll-StateVal}
use Rattle.dsm_runs.specs.Setups.{is_start}

abbrev pub tag_first : Bool → Tag
tag_first true = ReadWrite
tag_first false = Invalid

abbrev pub number_first : Bool → ℕ
number_first true = 0
number_first false = 5

abbrev pub infos_first : List Value
infos_first = v.Set empty ∷ v.Node 0 ∷ v.Int 0 ∷ []

-- the start line of a tree for the home, and for a cache
abbrev pub line_first : Protocol → Bool → Option Start
line_first tree home = find (λ x. is_start home x) tree.starts

-- the number of a line's state
abbrev pub state_in : List State → Option Start → ℕ
state_in xs None = 0
state_in xs (Some x) = unwrap_or (position (λ y. bytes_eq y.name x.state) xs) 0

unfoldable pub place_of : (i h b n : ℕ) (infos : List Value) (tag : Tag) (ws : List ℕ) → Place
place_of i h b n infos tag ws = record {
  me = i;
  home = h;
  block = b;
  infos = infos;
  state = roll-StateVal (record { state = n; args = []; cont = None });
  tag = tag;
  words = ws;
}

-- block b, whose home is h, at node i
abbrev pub first_place : (i h b : ℕ) → Bool → List ℕ → Place
first_place i h b home ws = place_of i h b (number_first home) infos_first (tag_first home) ws
