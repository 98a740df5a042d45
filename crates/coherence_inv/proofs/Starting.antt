-- A block at the start: its state, its tag, and that it is whole.
use Rattle.std.proofs.Common.{◌≡◌, ℕ, Bool, true, false, List, [], length, None, refl, sym, ap, subst, ◌∙◌}
use Rattle.tw_base.specs.NodeSets.{empty}
use Rattle.tw_base.specs.declared.value.Tag.{Tag}
use Rattle.tw_base.specs.declared.value.Tag.TheVariants.{Invalid, ReadWrite}
use Rattle.tw_base.specs.declared.value.Value.{Value}
use Rattle.teapot_meaning.specs.declared.state.Cont.{Cont}
use Rattle.teapot_meaning.specs.declared.state.Cont.TheOpen.{StateVal-F}
use Rattle.teapot_meaning.specs.declared.state.StateVal.{StateVal, out-roll-StateVal}
use Rattle.teapot_meaning.specs.Steps.{node_of, set_of}
use Rattle.dsm_runs.specs.Setups.{start_tag}
use Rattle.block_spots.specs.Cases.{HomeRw, CacheInv, NoRest}
use Rattle.block_spots.specs.Views.{int_of, state_numbered, value_at}
use Rattle.stache_tree.specs.Tree.{stache, states}
use Rattle.stache_table.specs.Blocks.{Block, BlockFits, IsLiteral, LeftFits, here_of, left_of, read, reads}
use Rattle.coherence_inv.specs.Parts.{IsPlaced}
use Rattle.stache_table.proofs.Told.{blocks_are_read}
use Rattle.coherence_frame.proofs.First.{first_place, infos_first, line_first, number_first, place_of, state_in, tag_first}

-- ---- a block at the start

-- the home has it, a cache does not
abbrev first_block : Bool → List ℕ → Block
first_block true ws = record {
  state = HomeRw;
  rest = NoRest;
  left = 0;
  set = empty;
  owner = 0;
  acks = 0;
  tag = ReadWrite;
  words = ws;
}
first_block false ws = record {
  state = CacheInv;
  rest = NoRest;
  left = 0;
  set = empty;
  owner = 0;
  acks = 0;
  tag = Invalid;
  words = ws;
}

eight : length empty ≡ 8
unfolding empty
eight = refl

first_fits : (home : Bool) (ws : List ℕ) → BlockFits (first_block home ws)
first_fits true ws = record { rest = tt; left = refl; tag = refl; eight = eight }
first_fits false ws = record { rest = tt; left = refl; tag = refl; eight = eight }

pub tag_line : (home : Bool) → start_tag (line_first stache home) ≡ tag_first home
tag_line true = refl
tag_line false = refl

pub state_line : (home : Bool) → state_in states (line_first stache home) ≡ number_first home
unfolding states
state_line true = refl
state_line false = refl

built : (i h b : ℕ) (home : Bool) (ws : List ℕ) → first_place i h b home ws ≡ here_of i h b (first_block home ws)
unfolding place_of
built i h b true ws = refl
built i h b false ws = refl

-- what is read off it
read_open : List Value → Tag → List ℕ → StateVal-F Cont StateVal → Block
read_open infos tag ws o = record {
  state = state_numbered o.state;
  rest = reads o.cont;
  left = left_of o.cont;
  set = set_of (value_at infos 0);
  owner = node_of (value_at infos 1);
  acks = int_of (value_at infos 2);
  tag = tag;
  words = ws;
}

read_first : (i h b : ℕ) (home : Bool) (ws : List ℕ) → read (here_of i h b (first_block home ws)) ≡ first_block home ws
unfolding read_open
read_first i h b true ws = ap (read_open infos_first ReadWrite ws)
    (out-roll-StateVal (record { state = 0; args = []; cont = None }))
read_first i h b false ws = ap (read_open infos_first Invalid ws)
    (out-roll-StateVal (record { state = 5; args = []; cont = None }))

abbrev Left : Block → Type 0
Left x = LeftFits x.state x.left

pub placed_first : (i h b : ℕ) (home : Bool) (ws : List ℕ) → IsPlaced (first_place i h b home ws)
placed_first i h b home ws = record {
  literal = subst IsLiteral (sym (built i h b home ws)) (blocks_are_read.back i h b (first_block home ws) (first_fits home ws));
  left = subst (λ (x : Block). Left x) (sym read_is) (first_fits home ws).left;
  eight = ap (λ (x : Block). length x.set) read_is ∙ (first_fits home ws).eight;
}
  where
    read_is : read (first_place i h b home ws) ≡ first_block home ws
    read_is = ap read (built i h b home ws) ∙ read_first i h b home ws
