-- What is proved of the table.
use Rattle.std.specs.Prelude.{ℕ, ◌≡◌, ◌<◌, ◌≤◌, false}
use Rattle.tw_base.specs.NodeSets.{has}
use Rattle.tw_base.specs.declared.message.Message.{Message}
use Rattle.teapot_tree.specs.declared.protocol.Protocol.{Protocol}
use Rattle.teapot_meaning.specs.Bare.{bare_ended}
use Rattle.teapot_meaning.specs.Does.{Does}
use Rattle.teapot_meaning.specs.declared.state.Ended.{Ended}
use Rattle.teapot_meaning.specs.declared.state.Here.{Here}
use Rattle.block_spots.specs.Cases as cases
use Rattle.block_spots.specs.Cases.{HomePut, HomeRo}
use Rattle.block_spots.specs.Views.{seen_message}
use Rattle.stache_table.specs.Blocks.{Block, kind_of, seen}
use Rattle.stache_table.specs.Laws.{IsOwn}
use Rattle.stache_d_table.specs.Blocks.{BlockFits, CarriesIf, IsBlock, IsLiteral, Shows, here_of, read}
use Rattle.stache_d_table.specs.Handling.{handle_in}
use Rattle.stache_d_tree.specs.Tree.{IsStacheD}

-- the message, for a block at node me, is of this kind, and has data exactly where that has it
pub record IsCome (m : Message) (here : Here) (k : cases.Kind) : Type 0 where
  pub kind : m.kind ≡ kind_of k
  pub block : m.block ≡ here.block
  pub from : IsOwn k m.from here.me
  pub carries : CarriesIf k m.payload

-- Among n nodes a message does to a block what the table says. At Home_RO the sharers are among the n nodes, at Home_Put the
-- owner is.
abbrev pub TableIsMeaning : Type 0
TableIsMeaning =
    (p : Protocol) (here : Here) (x : Block) (m : Message) (k : cases.Kind) (e : Ended) (n : ℕ) →
    IsStacheD p → IsBlock here x → IsCome m here k → n ≤ 8 →
    (x.state ≡ HomeRo → (i : ℕ) → n ≤ i → has x.set i ≡ false) →
    (x.state ≡ HomePut → x.owner < n) →
    Does p here m e →
    Shows here.block here.me here.home x (bare_ended e) (handle_in n here.home here.me (seen x) (seen_message m))

-- what is read off a block is the block
pub record BlocksAreRead : Type 0 where
  pub literal : (here : Here) (x : Block) → IsBlock here x → read here ≡ x
  pub back : (me home b : ℕ) (x : Block) → BlockFits x → IsLiteral (here_of me home b x)
