-- The law of the table, for every tree that is Stache_L up to lines.
use Rattle.std.proofs.Common.{subst}
use Rattle.teapot_meaning.specs.Bare.{bare_ended, bare_here}
use Rattle.teapot_tree.specs.Bare.{bare_protocol}
use Rattle.teapot_meaning.specs.Does.{Does}
use Rattle.teapot_meaning.proofs.Lines.{does-bare}
use Rattle.block_spots.specs.Views.{seen_message}
use Rattle.stache_l_tree.specs.Tree.{stache_l}
use Rattle.stache_table.specs.Blocks.{seen}
use Rattle.stache_l_table.specs.Blocks.{Shows, here_of}
use Rattle.stache_l_table.specs.Laws.{TableIsMeaning}
use Rattle.stache_l_table.proofs.Nodes.{handle-is}
use Rattle.stache_l_table.proofs.Table.{as_the_table}

pub table_is_the_meaning : TableIsMeaning
table_is_the_meaning p here x m k e n shipped block message le none does =
    let bare : Does (bare_protocol p) (bare_here here) m (bare_ended e) = does-bare p here m e does in
    let at_tree : Does stache_l (bare_here here) m (bare_ended e) =
    subst (λ q. Does q (bare_here here) m (bare_ended e)) shipped bare in
    let at_block : Does stache_l (here_of here.me here.home here.block x) m (bare_ended e) =
    subst (λ h. Does stache_l h m (bare_ended e)) block.block at_tree in
    subst (λ f. Shows here.block here.me here.home x (bare_ended e) f)
    (handle-is x.base.state n here.home here.me (seen x.base) (seen_message m) le none)
    (as_the_table here.block here.me here.home x k m (bare_ended e) block.fits message.kind message.block message.from
    message.carries at_block)
