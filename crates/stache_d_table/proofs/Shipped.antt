-- The law of the table, for every tree that is Stache_D up to lines.
use Rattle.std.proofs.Common.{◌≡◌, ◌<◌, ◌≤◌, ℕ, false, arith, refl, subst}
use Rattle.teapot_meaning.specs.Bare.{bare_ended, bare_here}
use Rattle.teapot_tree.specs.Bare.{bare_protocol}
use Rattle.teapot_meaning.specs.Does.{Does}
use Rattle.teapot_meaning.proofs.Lines.{does-bare}
use Rattle.block_spots.specs.Views.{seen_message}
use Rattle.block_spots.specs.Cases as cases
use Rattle.block_spots.specs.Cases.{HomeRo}
use Rattle.stache_table.specs.Blocks.{seen}
use Rattle.stache_table.proofs.Nodes.{home_ro-is}
use Rattle.stache_d_tree.specs.Tree.{stache_d}
use Rattle.stache_d_table.specs.Blocks.{Shows, here_of}
use Rattle.stache_d_table.specs.Handling.{handle_by}
use Rattle.stache_d_table.specs.Laws.{TableIsMeaning}
use Rattle.stache_d_table.proofs.Table.{as_the_table}

-- the table speaks of n nodes, the meaning of eight
handle-is : (s : cases.State) (n home me : ℕ) (h : cases.Here) (m : cases.Message) → n ≤ 8 →
    (s ≡ HomeRo → (i : ℕ) → n ≤ i → h.sharers i ≡ false) → handle_by s 8 home me h m ≡ handle_by s n home me h m
handle-is HomeRo n home me h m le none = home_ro-is n home me h m m.kind le (none refl)
handle-is _ n home me h m le none = refl

pub table_is_the_meaning : TableIsMeaning
table_is_the_meaning p here x m k e n shipped block message le none owned does =
    let bare : Does (bare_protocol p) (bare_here here) m (bare_ended e) = does-bare p here m e does in
    let at_tree : Does stache_d (bare_here here) m (bare_ended e) =
    subst (λ q. Does q (bare_here here) m (bare_ended e)) shipped bare in
    let at_block : Does stache_d (here_of here.me here.home here.block x) m (bare_ended e) =
    subst (λ h. Does stache_d h m (bare_ended e)) block.block at_tree in
    subst (λ f. Shows here.block here.me here.home x (bare_ended e) f)
    (handle-is x.state n here.home here.me (seen x) (seen_message m) le none)
    (as_the_table here.block here.me here.home x k m (bare_ended e) block.fits
    (λ q. few (owned q)) message.kind message.block message.from message.carries at_block)
  where
    few : x.owner < n → x.owner < 8
    few o = omega (arith, le, o)
