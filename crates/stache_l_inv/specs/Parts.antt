-- Coherence of a state under Stache_L: what it says of the state in words of its own.
use Rattle.std.specs.Prelude.{◌≡◌, length}
use Rattle.teapot_meaning.specs.declared.state.Here.{Here as Place}
use Rattle.stache_table.specs.Blocks.{LeftFits, reads}
use Rattle.stache_l_tree.specs.Tree.{stache_l}
use Rattle.stache_l_table.specs.Blocks.{IsLiteral, read}
use Rattle.coherence_frame.specs.Parts.{Wording}
use Rattle.coherence_inv.specs.Parts.{Copies, IsDown, IsUp}
use Rattle.stache_l_inv.specs.Coherent.{standing}

-- a block at a node is one of the protocol's, its continuation whole, line numbers aside; which node it has chosen is left open
pub record IsPlaced (here : Place) : Type 0 where
  pub literal : IsLiteral here
  pub left : LeftFits (read here).base.state (read here).base.left
  pub eight : length (read here).base.set ≡ 8  -- as every set of nodes in the program

abbrev pub wording : Wording
wording = record {
  standing = standing;
  tree = stache_l;
  reads = reads;
  IsPlaced = IsPlaced;
  IsDown = IsDown;
  IsUp = IsUp;
  Copies = Copies;
}
