use Rattle.std.proofs.Common.{◌≡◌, ◌<◌, length, ℕ, get_or}
use Rattle.tw_base.specs.declared.value.Tag.TheVariants.{Invalid}
use Rattle.block_tags.specs.Copies.{first_tag}
use Rattle.block_tags.proofs.blocks.first_tags.Given as goal

abbrev pub invariant-loop-block : goal.invariant-loop-block
invariant-loop-block l =
    (length l.tags ≡ 64) × ((k : ℕ) → k < l.block → get_or l.tags k Invalid ≡ first_tag l.shape l.me l.home l.cache k)
