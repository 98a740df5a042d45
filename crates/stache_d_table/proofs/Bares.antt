-- A block's continuation has no lines.
use Rattle.std.proofs.Common.{ℕ, ap}
use Rattle.stache_table.specs.Blocks.{Block, number_of}
use Rattle.stache_table.proofs.Bares.{val-bare}
use Rattle.stache_d_table.specs.Blocks.{BlockFits, IsBlock, here_of, later_in}

pub is_block : (me home b : ℕ) (x : Block) → BlockFits x → IsBlock (here_of me home b x) x
is_block me home b x fits = record {
  block = ap (λ s. record (here_of me home b x) { state = s }) (val-bare (number_of x.state) (later_in me x.state x.left x.rest));
  fits = fits;
}
